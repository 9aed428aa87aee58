pub mod ServicesReads
pub mod ServicesAlone
