-- Structs   the structs answered, from the calls' own answers: a refusal's number is never 0
pub mod Structs
