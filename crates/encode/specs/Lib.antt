pub mod Size
pub mod BytesWritten
