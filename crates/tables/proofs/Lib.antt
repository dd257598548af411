pub mod Pinned
-- rules T1 to T6 and the law at the finer face, by computed tests over each row
pub mod RulesEdges
pub mod RulesCorners
pub mod RulesSides
pub mod RulesTransition
pub mod RulesBorder
pub mod RulesFiner
-- what the mesher needs of each used code
pub mod RulesSlots
