-- The laws of folding. Assumes nothing.
pub mod Cut
pub mod CutLaws
pub mod Greedy
pub mod CuttingLaws
pub mod CopyLaws
pub mod BackLaws
pub mod PhysicalLaws
pub mod Least
pub mod Shortest
pub mod Fewest
pub mod StyleLaws
pub mod WrittenLaws
pub mod Again
pub mod Equal
pub mod Cases
