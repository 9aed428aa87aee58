-- The writer: what it holds, the calls that set it, and the packet that it writes.
use Rattle.std.specs.Prelude.{cond, List, [], ◌∷◌, ℕ}
use Rattle.basis.specs.Check.{WriteCheck, when, verdict, answer, if_clear}
use Rattle.basis.specs.Writing.{Written}
use Rattle.write_bytes.specs.PacketWriting as Writing
use Rattle.values_time.specs.Time.{time_absent}
use Rattle.service_list.specs.ServiceList.{count_check, list_absent}
use Rattle.service_list.specs.declared.list.MaybeServiceInfo.{MaybeServiceInfo}
use Rattle.values_time.specs.declared.time.MaybeTimeCode.{MaybeTimeCode}
use Rattle.values.specs.declared.framerate.Framerate.{Framerate}
use Rattle.writer.specs.declared.writer.CDPWriter.{CDPWriter}
use Rattle.writer.specs.declared.writer.CDPWriterSet.{CDPWriterSet}

abbrev pub writer : MaybeTimeCode → MaybeServiceInfo → ℕ → CDPWriter
writer time services sequence = record { time_code = time; service_info = services; sequence = sequence }

-- nothing is held, sequence 0
abbrev pub fresh_writer : CDPWriter
fresh_writer = writer time_absent list_absent 0

-- an absent time code that is set is zeros, an absent list empty
abbrev pub held_time : MaybeTimeCode → MaybeTimeCode
held_time time = cond time.present time time_absent

abbrev pub held_list : MaybeServiceInfo → MaybeServiceInfo
held_list services = cond services.present services list_absent

abbrev pub set_time_code : CDPWriter → MaybeTimeCode → CDPWriter
set_time_code w time = writer (held_time time) w.service_info w.sequence

abbrev pub holding : CDPWriter → MaybeServiceInfo → CDPWriter
holding w services = writer w.time_code (held_list services) w.sequence

-- a list that is there counts up to 15, or it is refused and the writer is given back
abbrev pub set_checks : MaybeServiceInfo → List WriteCheck
set_checks services = when services.present (count_check services.service_info ∷ [])

unfoldable pub set_service_info : CDPWriter → MaybeServiceInfo → CDPWriterSet
set_service_info w services =
    let v = verdict (set_checks services) in
    record { answer = answer v 0; writer = if_clear v (holding w services) w }

abbrev pub set_sequence_count : CDPWriter → ℕ → CDPWriter
set_sequence_count w sequence = writer w.time_code w.service_info sequence

-- a flush makes the writer new
abbrev pub flushed_writer : CDPWriter → CDPWriter
flushed_writer w = fresh_writer

-- a packet of all that is held
abbrev pub held_written : CDPWriter → Framerate → List ℕ → List ℕ → Written
held_written w rate captions buffer =
    Writing.packet_written rate w.sequence w.time_code w.service_info captions buffer
