-- Follows the code and not the rules: the services are put before the other parts, since writing their section tests the
-- list; what that leaves.
use Rattle.std.specs.Prelude.{List, [], ◌∷◌, ◌++◌, ℕ, ◌+◌, ◌-◌, length}
use Rattle.basis.specs.Bytes.{over}
use Rattle.basis.specs.Check.{WriteVerdict, verdict, answer, if_clear, room_check}
use Rattle.basis.specs.Writing.{Written}
use Rattle.values.specs.Layout.{caption_run, footer_size, header_size, section_head_size, time_code_size}
use Rattle.write_checks.specs.Checks.{services_length, services_write_checks}
use Rattle.write_bytes.specs.PacketWriting.{services_bytes}
use Rattle.service_list.specs.declared.list.MaybeServiceInfo.{MaybeServiceInfo}

-- how many bytes the other parts have at most
abbrev pub most_others : ℕ
most_others = header_size + time_code_size + (section_head_size + caption_run) + footer_size

-- W7 and W8, then W9 for the whole packet, of which the other parts have so many bytes
abbrev pub services_verdict : MaybeServiceInfo → ℕ → ℕ → WriteVerdict
services_verdict services others room =
    verdict (services_write_checks services ++ room_check (others + services_length services) room ∷ [])

-- the section stands in front of the footer; with 0 goes the packet's length
unfoldable pub services_put : MaybeServiceInfo → ℕ → List ℕ → Written
services_put services others buffer =
    let v = services_verdict services others (length buffer) in
    record {
      answer = answer v (others + services_length services);
      buffer = if_clear v (over (others - footer_size) (services_bytes services) buffer) buffer;
    }
