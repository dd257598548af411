-- that it holds
pub mod Kept
-- how it is proved
pub mod Judges
pub mod ReadBack
pub mod Surface
pub mod Extracted
pub mod Records
pub mod Room
pub mod Views
pub mod StlKept
pub mod WeldExtracted
pub mod WeldRenamed
pub mod WeldFinerKept
pub mod WeldKept
pub mod NestingKept
pub mod PlaceKindsKept
pub mod BlankKept
pub mod WeightsKept
pub mod FinerKept
pub mod ReadsKept
pub mod ReadsReached
pub mod VolumeKept
pub mod LargerKept
pub mod SheetKept
pub mod RepairKept
pub mod LayersKept
pub mod LayeredKept
