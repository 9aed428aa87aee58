-- Nothing comes from bytes that were refused: a refusal is given in the place of a value.
-- Assumes nothing.
use mathlib.Core.Path.{◌≡◌, refl}
use mathlib.Core.Bool.{true≢false}
use Rattle.std.specs.Prelude.{Result, Ok, Err, None}
use Rattle.std.specs.Result.{result_ok}
use Rattle.basis.specs.Check.{Verdict, broken, clear, read_answer, read_as, verdict}
use Rattle.basis.specs.declared.refusal.Refused.{Refused}
use Rattle.values_time.specs.Time as Time
use Rattle.service_entry.specs.Entry as Entry
use Rattle.service_entry.specs.Service.{entry_shown, filler}
use Rattle.service_entry.specs.declared.entry.ServiceEntry.{ServiceEntry}
use Rattle.service_entries.specs.Code as ServiceEntries
use Rattle.service_list.specs.Section as Section
use Rattle.service_list.specs.ServiceList.{empty, list_shown}
use Rattle.service_list.specs.declared.list.ServiceInfo.{ServiceInfo}
use Rattle.read_time_code.specs.Code as ReadTimeCode
use Rattle.read_closing.proofs.FooterFound.{checksum_kept}
use Rattle.read_header.specs.Header.{sequence_in}
use Rattle.read_packet.proofs.PacketReads.{closing_of_packet}
use Rattle.read_packet.specs.Code as ReadPacket
use Rattle.read_packet.specs.Packet.{closing_at, packet_checks}
use Rattle.reader.proofs.Refusals.{list_only_from_accepted, no_list_from_bad_checksum}
use Rattle.reader.specs.Code as ReaderCode
use Rattle.theorem_packet.specs.FirstDemand.{refuses}
use Rattle.theorem_packet.specs.Refused.{NothingFromRefused}

nothing : {A : Type 0} (got : Result A Refused) → refuses (read_answer got 0) → result_ok got ≡ None
nothing (Ok value) h = absurd (true≢false h)
nothing (Err r) h = refl

filler_for : (got : Result ServiceEntry Refused) → refuses (read_answer got 0) → entry_shown got ≡ filler
filler_for (Ok e) h = absurd (true≢false h)
filler_for (Err r) h = refl

empty_for : (got : Result ServiceInfo Refused) → refuses (read_answer got 0) → list_shown got ≡ empty
empty_for (Ok l) h = absurd (true≢false h)
empty_for (Err r) h = refl

unless : {A : Type 0} (v : Verdict) (value : A) → (v ≡ clear → ⊥) → result_ok (read_as v value) ≡ None
unless clear value h = absurd (h refl)
unless (broken rule) value h = refl

pub nothing_from_refused : NothingFromRefused
unfolding ReaderCode.packet_read
nothing_from_refused =
    record {
      entry_read = λ bytes. nothing (Entry.entry_read bytes);
      entries_read = λ d. nothing (ServiceEntries.entries_read d);
      section_read = λ d. nothing (Section.section_read d);
      entry_is_filler = λ bytes. filler_for (Entry.entry_read bytes);
      list_is_empty = λ d. empty_for (Section.section_read d);
      stateless_read = λ p. nothing (ReaderCode.packet_read p);
      no_list = refl;
      packet_read = list_only_from_accepted;
      time_read = λ hours minutes seconds frames. nothing (Time.time_read hours minutes seconds frames);
      time_code_read = λ p present i. nothing (ReadTimeCode.time_code_read p present i);
      checked_read = λ p. nothing (ReadPacket.checked_read p);
      bad_checksum = λ p wrong. unless (verdict (packet_checks p)) (ReaderCode.stateless_shown p)
          (λ v. wrong (checksum_kept p (sequence_in p) (closing_at p) (closing_of_packet p v)));
      bad_checksum_kept = no_list_from_bad_checksum;
    }
