-- LawsStep: what the piece is added to, and each answer of the step.
pub mod LawsStep
