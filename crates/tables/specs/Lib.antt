-- The tables of tools/tables (not yet compared with the published file), what later definitions read of them, and the words of rules T1 to T6 of document
-- 01 and of the law at the finer face (document 02, [14]). The rules and the law are proved in proofs/, what else is said of a case here.

-- what is read: the fields of a code, the tables by case number and position, a cell's points, corners and edges
pub mod Codes
pub mod Cases
pub mod Points
pub mod Corners
-- the rules, and the words that they are stated in
pub mod Listed
pub mod Sides
pub mod RulesEdges
pub mod RulesCorners
pub mod RulesMade
pub mod RulesSides
pub mod RulesTransition
pub mod RulesBorder
pub mod RulesSlots
pub mod RulesUncut
pub mod FinerSides
pub mod RulesFiner
-- the numbers, as rows and as the arrays of the code
pub mod RegularRows
pub mod TransitionRows
pub mod Arrays
-- what the proofs share
pub mod Flat
