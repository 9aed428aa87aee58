-- Rule 4: the flag byte, read and made.
use Rattle.std.specs.Prelude.{ℕ, ◌+◌}
use Rattle.basis.specs.Mask.{all_set, flag, x80, x40, x20, x10, x08, x04, x02}
use Rattle.values.specs.declared.flags.Flags.{Flags}

-- a bit for each: 80 tells of a time code, 40 of captions, 20 of services; then start, change and complete down to 04;
-- 02 tells that captioning is on air. Bit 01 is unread.
abbrev pub flags_of : ℕ → Flags
flags_of b =
    record {
      time_code = all_set x80 b;
      cc_data = all_set x40 b;
      svc_info = all_set x20 b;
      svc_info_start = all_set x10 b;
      svc_info_change = all_set x08 b;
      svc_info_complete = all_set x04 b;
      caption_service_active = all_set x02 b;
    }

-- Writing: 02 and 01 are always set, whatever the flag for 02 is
abbrev pub flag_byte : Flags → ℕ
flag_byte f =
    flag f.time_code 0x80 + flag f.cc_data 0x40 + flag f.svc_info 0x20 + flag f.svc_info_start 0x10
    + flag f.svc_info_change 0x08
    + flag f.svc_info_complete 0x04
    + 0x02
    + 0x01
