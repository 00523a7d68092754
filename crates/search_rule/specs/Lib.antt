pub mod Rule
pub mod RuleExamples
