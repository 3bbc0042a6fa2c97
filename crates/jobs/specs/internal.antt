-- What only bodies and lemmas use: no public clause names any of it.
pub mod Conditions
pub mod QuestionFailures
