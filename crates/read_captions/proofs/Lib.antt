pub mod CaptionsReads
