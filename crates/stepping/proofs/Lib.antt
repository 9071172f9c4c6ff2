-- The laws of one step of a run, and of numbers and images in bytes.
pub mod StepLaws
pub mod BufferLaws
pub mod ImageLaws
pub mod ProgressLaws
pub mod Relations
