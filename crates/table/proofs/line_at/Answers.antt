-- `table::line_at` meets its contract: each arm is a row of the definitions. Assumes nothing.
use mathlib.Core.Path.{◌≡◌}
use native.Mathlib.Omega.{arith}
use Rattle.table.specs.Codes.{codes, code_no}
use Rattle.table.proofs.Lines.{None}
use Rattle.table.proofs.line_at.Goals as goal

pub returns-in-0 : goal.returns-in-0
unfolding codes code_no
returns-in-0 c =
    let e : c.args.i ≡ 0 = omega arith in
    rw e

pub returns-in-1 : goal.returns-in-1
unfolding codes code_no
returns-in-1 c =
    let e : c.args.i ≡ 1 = omega arith in
    rw e

pub returns-in-2 : goal.returns-in-2
unfolding codes code_no
returns-in-2 c =
    let e : c.args.i ≡ 2 = omega arith in
    rw e

pub returns-in-3 : goal.returns-in-3
unfolding codes code_no
returns-in-3 c =
    let e : c.args.i ≡ 3 = omega arith in
    rw e

pub returns-in-4 : goal.returns-in-4
unfolding codes code_no
returns-in-4 c =
    let e : c.args.i ≡ 4 = omega arith in
    rw e

pub returns-in-5 : goal.returns-in-5
unfolding codes code_no
returns-in-5 c =
    let e : c.args.i ≡ 5 = omega arith in
    rw e

pub returns-in-6 : goal.returns-in-6
unfolding codes code_no
returns-in-6 c =
    let e : c.args.i ≡ 6 = omega arith in
    rw e

pub returns-in-7 : goal.returns-in-7
unfolding codes code_no
returns-in-7 c =
    let e : c.args.i ≡ 7 = omega arith in
    rw e

pub returns-in-8 : goal.returns-in-8
unfolding codes code_no
returns-in-8 c =
    let e : c.args.i ≡ 8 = omega arith in
    rw e

pub returns-in-9 : goal.returns-in-9
unfolding codes code_no
returns-in-9 c =
    let e : c.args.i ≡ 9 = omega arith in
    rw e

pub returns-in-10 : goal.returns-in-10
unfolding codes code_no
returns-in-10 c =
    let e : c.args.i ≡ 10 = omega arith in
    rw e

pub returns-in-11 : goal.returns-in-11
unfolding codes code_no
returns-in-11 c =
    let e : c.args.i ≡ 11 = omega arith in
    rw e

pub returns-in-12 : goal.returns-in-12
unfolding codes code_no
returns-in-12 c =
    let e : c.args.i ≡ 12 = omega arith in
    rw e

pub returns-in-13 : goal.returns-in-13
unfolding codes code_no
returns-in-13 c =
    let e : c.args.i ≡ 13 = omega arith in
    rw e

pub returns-in-14 : goal.returns-in-14
unfolding codes code_no
returns-in-14 c =
    let e : c.args.i ≡ 14 = omega arith in
    rw e

pub returns-in-15 : goal.returns-in-15
unfolding codes code_no
returns-in-15 c =
    let e : c.args.i ≡ 15 = omega arith in
    rw e

pub returns-in-16 : goal.returns-in-16
unfolding codes code_no
returns-in-16 c =
    let e : c.args.i ≡ 16 = omega arith in
    rw e

pub returns-in-17 : goal.returns-in-17
unfolding codes code_no
returns-in-17 c =
    let e : c.args.i ≡ 17 = omega arith in
    rw e

pub returns-in-18 : goal.returns-in-18
unfolding codes code_no
returns-in-18 c =
    let e : c.args.i ≡ 18 = omega arith in
    rw e

pub returns-in-19 : goal.returns-in-19
unfolding codes code_no
returns-in-19 c =
    let e : c.args.i ≡ 19 = omega arith in
    rw e

pub returns-in-20 : goal.returns-in-20
unfolding codes code_no
returns-in-20 c =
    let e : c.args.i ≡ 20 = omega arith in
    rw e

pub returns-in-21 : goal.returns-in-21
unfolding codes code_no
returns-in-21 c =
    let e : c.args.i ≡ 21 = omega arith in
    rw e

pub returns-in-22 : goal.returns-in-22
unfolding codes code_no
returns-in-22 c =
    let e : c.args.i ≡ 22 = omega arith in
    rw e

pub returns-in_default : goal.returns-in_default
unfolding codes code_no None
returns-in_default c =
    let e : c.args.i ≡ 23 = omega arith in
    rw e
