pub mod FirstDemand
pub mod Refused
pub mod Cases
pub mod RoundTrip
pub mod ActiveMark
pub mod Places
