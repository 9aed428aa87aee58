-- The parts of a packet in the lent buffer: each as it is put, and all of them one behind the other.
-- Assumes nothing.
use mathlib.Core.Path.{◌≡◌, ◌∙◌, sym, refl, ap, ap₂}
use mathlib.Core.Bool.{Bool, true, false, cond}
use mathlib.Core.List.{List, [], ◌∷◌, ◌++◌, append_assoc}
use Prim.Native.Nat.{ℕ, ◌+◌, ◌-◌, ◌/◌, ◌≤◌}
use native.Mathlib.Nat.{zero-add}
use native.Mathlib.Omega.{arith}
use lib.ListN.{length, drop, length-append, take}
use lib.Seq.{drop_at, length-take-le}
use Rattle.basis.proofs.Puts.{over_nil, over_over, put_fits, put_put, take_over, take_put}
use Rattle.basis.specs.Bytes.{over}
use Rattle.basis.specs.Code.{put}
use Rattle.basis.specs.Check.{size_when}
use Rattle.values.specs.Checksum.{negative, total}
use Rattle.values.specs.Layout.{captions_id, time_code_id, section_length, footer_size, header_size, section_head_size, time_code_size}
use Rattle.values_time.specs.Time.{time_bytes}
use Rattle.service_list.proofs.SectionWrites.{section_length_lem}
use Rattle.service_list.specs.ServiceList.{list_absent}
use Rattle.service_list.specs.SectionWriting.{section_bytes}
use Rattle.write_checks.specs.Checks.{packet_length, services_length, time_code_length}
use Rattle.write_checks.specs.Code.{held_time_bytes, zeros}
use Rattle.write_bytes.specs.PacketWriting.{
  captions_bytes,
  held_flags,
  footer_bytes,
  header_bytes,
  packet_bytes,
  services_bytes,
  time_code_bytes,
}
use Rattle.service_list.specs.declared.list.MaybeServiceInfo.{MaybeServiceInfo}
use Rattle.values.specs.declared.flags.Flags.{Flags}
use Rattle.values.specs.declared.framerate.Framerate.{Framerate}
use Rattle.values_time.specs.declared.time.MaybeTimeCode.{MaybeTimeCode}

-- a part that is put: where the next one begins, and the buffer
abbrev pub PutAt : ℕ → ℕ → List ℕ → List ℕ → ℕ → List ℕ → Type 0
PutAt at size bytes buffer next after = (next ≡ at + size) × (after ≡ over at bytes buffer)

-- the flags, without and with services
module _ (time : MaybeTimeCode) (services : MaybeServiceInfo) where
  abbrev flags : Bool → Bool → Bool → Bool → Flags
  flags held start change complete =
      record {
        time_code = time.present;
        cc_data = true;
        svc_info = held;
        svc_info_start = start;
        svc_info_change = change;
        svc_info_complete = complete;
        caption_service_active = true;
      }

  pub flags_without : services.present ≡ false → flags false false false false ≡ held_flags time services
  flags_without a = rw a

  pub flags_with : services.present ≡ true
      → flags true services.service_info.start services.service_info.change
      services.service_info.complete
      ≡ held_flags time services
  flags_with a = rw a

module _ (at : ℕ) (buffer : List ℕ) where
  module _ (timed : Bool) (bytes : List ℕ) where
    abbrev time_part : List ℕ
    time_part = cond timed (time_code_id ∷ bytes) []

    pub time_absent : timed ≡ false → PutAt at (size_when timed time_code_size) time_part buffer at buffer
    time_absent a = (rw a (omega arith), rw a (sym (over_nil at buffer)))

    pub time_put : timed ≡ true → length bytes ≡ 4 → at + size_when timed time_code_size ≤ length buffer
        → PutAt at (size_when timed time_code_size) time_part buffer (at + time_code_size)
        (put (at + 1) bytes (put at (time_code_id ∷ []) buffer))
    time_put held four room =
        let fits : at + time_code_size ≤ length buffer = rw held at room in
        (rw held, rw held (put_put at (time_code_id ∷ []) bytes buffer (omega arith)))

  module _ (captions : List ℕ) (room : at + (2 + length captions) ≤ length buffer) where
    pub captions_put_lem : put (at + 2) captions (put at (captions_id ∷ (0xE0 + length captions / 3) ∷ []) buffer)
        ≡ over at (captions_bytes captions) buffer
    captions_put_lem = put_put at (captions_id ∷ (0xE0 + length captions / 3) ∷ []) captions buffer (omega arith)

  module _ (sequence : ℕ) (room : at + footer_size ≤ length buffer) where
    abbrev footer : List ℕ
    footer = footer_bytes sequence

    before_checksum : take (at + 3) (put at footer buffer) ≡ take at buffer ++ footer
    before_checksum = take_put at footer buffer (omega arith)

    pub footer_put : (sum : ℕ) → sum ≡ negative (total (take (at + 3) (put at footer buffer)))
        → put (at + 3) (sum ∷ []) (put at footer buffer)
        ≡ over at (footer ++ negative (total (take at buffer ++ footer)) ∷ []) buffer
    footer_put sum e =
        put_put at footer (sum ∷ []) buffer (omega arith)
        ∙ ap (λ (n : ℕ). over at (footer ++ n ∷ []) buffer)
        (e ∙ ap (λ (xs : List ℕ). negative (total xs)) before_checksum)

-- bytes put right behind those that stand at the start
behind : (xs ys buffer : List ℕ) (at : ℕ) → at ≡ length xs → over at ys (over 0 xs buffer) ≡ over 0 (xs ++ ys) buffer
behind xs ys buffer at e =
    ap (λ (n : ℕ). over n ys (over 0 xs buffer)) (e ∙ sym (zero-add (length xs)))
    ∙ over_over 0 xs ys buffer (omega arith)

-- bytes put at the start, right in front of those that stand there
in_front : (xs ys buffer : List ℕ) (at : ℕ) → at ≡ length xs → at ≤ length buffer
    → over 0 xs (over at ys buffer) ≡ over 0 (xs ++ ys) buffer
unfolding over
in_front xs ys buffer at e room =
    let tail : List ℕ = drop (at + length ys) buffer in
    let long : length (take at buffer) ≡ 0 + length xs = length-take-le at buffer room ∙ e ∙ sym (zero-add (length xs)) in
    let end : at + length ys ≡ 0 + length (xs ++ ys) = simp length-append (omega arith) in
    ap (λ (b : List ℕ). xs ++ drop (0 + length xs) b) (append_assoc (take at buffer) ys tail)
    ∙ ap (λ (b : List ℕ). xs ++ b) (drop_at (take at buffer) (ys ++ tail) (0 + length xs) long)
    ∙ sym (append_assoc xs ys tail)
    ∙ ap (λ (n : ℕ). (xs ++ ys) ++ drop n buffer) end

-- the sizes of the parts are their lengths
cond_length : (present : Bool) (bytes : List ℕ) (size : ℕ) → length bytes ≡ size
    → length (cond present bytes []) ≡ size_when present size
cond_length true bytes size e = e
cond_length false bytes size e = omega arith

pub time_length : (time : MaybeTimeCode) → length (time_code_bytes time) ≡ time_code_length time
time_length time = cond_length time.present (time_code_id ∷ time_bytes time.time_code) time_code_size (omega arith)

pub services_length_lem : (services : MaybeServiceInfo) → length (services_bytes services) ≡ services_length services
services_length_lem services =
    cond_length services.present (section_bytes services.service_info)
    (section_length services.service_info.count) (section_length_lem services.service_info)

module _ (rate : Framerate) (sequence : ℕ) (time : MaybeTimeCode) (services : MaybeServiceInfo)
    (captions : List ℕ) where
  abbrev header : List ℕ
  header = header_bytes (packet_length time services (length captions)) rate (held_flags time services) sequence

  abbrev times : List ℕ
  times = time_code_bytes time

  abbrev section : List ℕ
  section = services_bytes services

  -- what stands in front of the services, and all but the footer
  abbrev lead : List ℕ
  lead = header ++ times ++ captions_bytes captions

  abbrev front : List ℕ
  front = lead ++ section

  lead_length : length lead ≡ header_size + time_code_length time + (section_head_size + length captions)
  lead_length = simp (length-append, time_length time) (omega arith)

  front_length : length front ≡ header_size + time_code_length time + (section_head_size + length captions) + services_length services
  front_length = omega (arith, length-append lead section, lead_length, services_length_lem services)

  pub packet_length_lem : length (packet_bytes rate sequence time services captions)
      ≡ packet_length time services (length captions)
  unfolding packet_bytes
  packet_length_lem = simp (length-append, time_length time, services_length_lem services) (omega arith)

  -- the services stand where what is put in front of them ends, and the footer behind them, so that together they are the packet
  pub packet_put : (buffer b1 b2 b3 : List ℕ) → packet_length time services (length captions) ≤ length buffer
      → b1 ≡ over (packet_length time list_absent (length captions) - footer_size) section buffer
      → b2 ≡ over 0 lead b1
      → b3
      ≡ over (packet_length time services (length captions) - footer_size)
      (footer_bytes sequence
      ++ negative (total (take (packet_length time services (length captions) - footer_size) b2 ++ footer_bytes sequence)) ∷ [])
      b2
      → b3 ≡ over 0 (packet_bytes rate sequence time services captions) buffer
  unfolding packet_bytes
  packet_put buffer b1 b2 b3 room e1 e2 e3 =
      let at : ℕ = packet_length time list_absent (length captions) - footer_size in
      let end : ℕ = packet_length time services (length captions) - footer_size in
      let begins : at ≡ length lead = omega (arith, lead_length) in
      let ends : end ≡ length front = omega (arith, front_length) in
      let f2 : b2 ≡ over 0 front buffer = e2 ∙ ap (over 0 lead) e1 ∙ in_front lead section buffer at begins (omega arith) in
      let before : take end b2 ≡ front = ap₂ (λ (n : ℕ) (b : List ℕ). take n b) ends f2 ∙ take_over front buffer in
      let sum : List ℕ → List ℕ = λ (xs : List ℕ). negative (total (xs ++ footer_bytes sequence)) ∷ [] in
      e3
      ∙ ap (λ (xs : List ℕ). over end (footer_bytes sequence ++ sum xs) b2) before
      ∙ ap (over end (footer_bytes sequence ++ sum front)) f2
      ∙ behind front (footer_bytes sequence ++ sum front) buffer end ends
      ∙ ap (λ (xs : List ℕ). over 0 xs buffer) (sym (append_assoc front (footer_bytes sequence) (sum front)))

-- the bytes that the test of a time code has made are those that are put where it is held
pub times_are : (time : MaybeTimeCode) → cond time.present (time_code_id ∷ held_time_bytes time) [] ≡ time_code_bytes time
times_are time = held time.present
  where
    held : (present : Bool)
        → cond present (time_code_id ∷ cond present (time_bytes time.time_code) zeros) []
        ≡ cond present (time_code_id ∷ time_bytes time.time_code) []
    held true = refl
    held false = refl

-- header, time code and captions, each where the one before it ends
pub lead_put : (header bytes captions buffer b1 b2 b3 : List ℕ) (timed : Bool) (at : ℕ) → length header ≡ header_size
    → length bytes ≡ 4 → header_size ≤ length buffer → b1 ≡ put 0 header buffer
    → PutAt header_size (size_when timed time_code_size) (cond timed (time_code_id ∷ bytes) []) b1 at b2
    → b3 ≡ over at (captions_bytes captions) b2
    → b3 ≡ over 0 (header ++ cond timed (time_code_id ∷ bytes) [] ++ captions_bytes captions) buffer
lead_put header bytes captions buffer b1 b2 b3 timed at seven four room e1 e2 e3 =
    let times : List ℕ = cond timed (time_code_id ∷ bytes) [] in
    let long : length times ≡ size_when timed time_code_size =
    cond_length timed (time_code_id ∷ bytes) time_code_size (omega arith) in
    let f1 : b1 ≡ over 0 header buffer = e1 ∙ put_fits 0 header buffer (omega arith) in
    let f2 : b2 ≡ over 0 (header ++ times) buffer =
    e2.1 ∙ ap (over header_size times) f1 ∙ behind header times buffer header_size (sym seven) in
    e3
    ∙ ap (over at (captions_bytes captions)) f2
    ∙ behind (header ++ times) (captions_bytes captions) buffer at
    (simp (length-append, seven, long) e2.0)
