pub mod SameByte
