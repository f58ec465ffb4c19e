-- What begin is given, from its parameters, and as its struct holds it. Assumes nothing.
use Rattle.std.specs.Prelude.{ℕ, List}
use Rattle.metafile.specs.Begin.{BeginGiven}
use Rattle.begin.specs.declared.Given.{Given}

-- strategy, mark, serial, recording date and agent, writing date and agent
abbrev pub given_of : List ℕ → List ℕ → List ℕ → List ℕ → List ℕ → List ℕ → List ℕ → BeginGiven
given_of strategy mark serial recorded recorder written writer =
    record {
      strategy = strategy;
      mark = mark;
      integrity = record {
        serial = serial;
        recording_date = recorded;
        recording_agent = recorder;
        writing_date = written;
        writing_agent = writer;
      };
    }

abbrev pub given_in : Given → BeginGiven
given_in g = given_of g.strategy g.mark.now g.serial g.recorded g.recorder.now g.written g.writer.now
