-- Document 01, section by section: what a reader must believe.
pub mod Lists
pub mod Limits
pub mod Layout
pub mod Sheet
pub mod Types
pub mod Transfer
pub mod Reach
pub mod Candidates
pub mod Run
pub mod Search
pub mod Chains
pub mod Values
pub mod Acyclic
pub mod Check
pub mod Answer
pub mod Calls
pub mod Listing
-- Computed from it: the pinned cases, and a witness for each number and each wrong turn.
pub mod Rules
pub mod Pinned
pub mod Charts
pub mod Witnesses
-- Demand 3, and which numbers come from where.
pub mod RunLaws
pub mod CheckNumbers
pub mod Stops
pub mod FlexLaws
pub mod Limit
pub mod Outcomes
pub mod Refusals
-- What the checks promise: ids, edges and chains.
pub mod Members
pub mod CheckLaws
pub mod CheckedSheet
pub mod ChainLaws
pub mod SheetFuel
-- Components against Tarjan (1972), and what a set admits.
pub mod ReachLaws
pub mod Admission
-- The type table: Robinson (1965), acyclicity, fuel.
pub mod Solutions
pub mod Joining
pub mod MostGeneral
pub mod AcyclicLaws
pub mod NoCycles
pub mod RootRank
pub mod Readings
pub mod UnifyKeeps
pub mod UprightTables
pub mod UnifierFound
pub mod Robinson
pub mod TransferKeeps
pub mod FreshKeeps
pub mod CheckedTables
pub mod Pigeonholes
pub mod WalksEnd
pub mod UnifyEnds
pub mod OwnInverse
pub mod TypeFuel
-- Tables through the whole search, and the size of an answer.
pub mod Carried
pub mod TransferCount
pub mod Yields
pub mod Slim
pub mod UprightRoots
pub mod Neat
pub mod SearchKeeps
pub mod SubQuestions
pub mod CommonTerms
pub mod CommonSides
pub mod ErrorsApart
pub mod Labels
pub mod LabelsCome
pub mod Placed
pub mod SignedTerms
pub mod SignedJoins
pub mod SignedImports
pub mod Loose
pub mod ResultLimits
-- Laws in the form in which code asks for them.
pub mod WordLaws
pub mod ListingLaws
