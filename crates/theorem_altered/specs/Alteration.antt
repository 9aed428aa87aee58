-- The third demand's alterations of a packet: p as it was, q as it became. Each clause has the demand's words.
use Rattle.std.specs.Prelude.{true, false, cond, List, [], ◌≡◌, ℕ, ◌+◌, ◌-◌, length, take}
use Rattle.basis.specs.Answer.{done}
use Rattle.basis.specs.Bytes.{byte, part}
use Rattle.basis.specs.Check.{clear, read_answer, size_when, verdict}
use Rattle.service_entries.specs.Entries.{count_of}
use Rattle.service_list.specs.Section.{list_of, section_read}
use Rattle.read_captions.specs.Captions.{handed_out}
use Rattle.read_header.specs.Header.{flags_in}
use Rattle.read_closing.specs.Closing.{checksum_of}
use Rattle.read_services.specs.Services.{services_part, services_of}
use Rattle.read_packet.specs.Packet.{captions_at, closing_at, footer_at, packet_checks, services_at}
use Rattle.service_list.specs.declared.list.MaybeServiceInfo.{MaybeServiceInfo}
use Rattle.service_list.specs.declared.list.ServiceInfo.{ServiceInfo}
use Rattle.values.specs.Layout.{footer_size, section_head_size}
use Rattle.values.specs.declared.flags.Flags.{Flags}

-- where the caption bytes begin, behind the section's id and count; they end where the service section stands
abbrev pub captions_from : List ℕ → ℕ
captions_from p = captions_at p + size_when (flags_in p).cc_data section_head_size

-- other bytes in a span, equally many, in an accepted packet that ends with its footer, and the checksum mended
pub record Put (from to : ℕ) (p q : List ℕ) : Type 0 where
  pub accepted : verdict (packet_checks p) ≡ clear
  pub ends_with_footer : length p ≡ footer_at p + footer_size
  pub equally_many : length q ≡ length p
  -- outside the span all is the same, but for byte 4, the flags, and the last, the checksum
  pub before_flags : take 4 q ≡ take 4 p
  pub before_span : part 5 (from - 5) q ≡ part 5 (from - 5) p
  pub behind_span : part to (length p - 1 - to) q ≡ part to (length p - 1 - to) p
  pub checksum_mended : byte q (length q - 1) ≡ checksum_of q

-- the section that stands in q where p has its own
abbrev pub section_in : List ℕ → List ℕ → List ℕ
section_in p q = services_part q (services_at p)

-- three header flags are the section's, the others as they were, 02 among them; bit 01, which nothing reads, may be anything
abbrev pub mended_flags : Flags → ServiceInfo → Flags
mended_flags f l =
    record {
      time_code = f.time_code;
      cc_data = f.cc_data;
      svc_info = f.svc_info;
      svc_info_start = l.start;
      svc_info_change = l.change;
      svc_info_complete = l.complete;
      caption_service_active = f.caption_service_active;
    }

-- another well-formed section with as many entries, its three header flags mended
pub record OtherSection (p q : List ℕ) : Type 0 where
  pub well_formed : read_answer (section_read (section_in p q)) 0 ≡ done 0
  pub as_many_entries : count_of (section_in p q) ≡ count_of (section_in p p)
  pub header_flags_mended : flags_in q ≡ mended_flags (flags_in p) (list_of (section_in p q))

-- the first half: other caption bytes, and the flags as they were
pub record OtherCaptions (p q : List ℕ) : Type 0 where
  pub put : Put (captions_from p) (services_at p) p q
  pub same_flags : byte q 4 ≡ byte p 4

-- the second half: another service section
pub record OtherServices (p q : List ℕ) : Type 0 where
  pub put : Put (services_at p) (closing_at p) p q
  pub has_services : (flags_in p).svc_info ≡ true
  pub section : OtherSection p q

-- both in one packet; one without services has its flags as they were
pub record Altered (p q : List ℕ) : Type 0 where
  pub put : Put (captions_from p) (closing_at p) p q
  pub section : (flags_in p).svc_info ≡ true → OtherSection p q
  pub same_flags : (flags_in p).svc_info ≡ false → byte q 4 ≡ byte p 4

-- the new captions, as they are handed out, and the new list
abbrev pub new_captions : List ℕ → List ℕ → List ℕ
new_captions p q = cond (flags_in p).cc_data (handed_out q (captions_at p)) []

abbrev pub new_list : List ℕ → List ℕ → MaybeServiceInfo
new_list p q = services_of q (flags_in p).svc_info (services_at p)
