-- Judged   fields by kind: short, judged, words, stamps
-- Runs     the reader's runs: stretches in two parts, lines
-- Standing   lines that stand with good values have no fault
-- Puts     the writer's runs: values, bytes behind bytes, lines, digits, closing
pub mod Judged
pub mod Runs
pub mod Standing
pub mod Puts
