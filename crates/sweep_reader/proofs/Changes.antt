-- A packet that is read and fed; one value more of a byte, and all of them.
-- Assumes nothing.
use Rattle.std.proofs.Common.{◌≡◌, ℕ, ◌+◌, List, length, replicate, refl, ap, ◌∙◌, add-one}
use lib.ListN.{length-replicate}
use Rattle.report.specs.Digest.{all_fed}
use Rattle.reader.specs.Reader.{buffer_after, read}
use Rattle.sweep_reader.specs.Change.{Stand, changed_packet, values_after}
use Rattle.sweep_reader.specs.Read.{answer_fed, captions_after, counted_in, packet_tallied, tallied, tally}
use Rattle.sweep_reader.specs.Shown.{reader_fed}
use Rattle.reader.specs.declared.parser.CDPParser.{CDPParser}
use Rattle.reader.specs.declared.parser.CDPParserRead.{CDPParserRead}
use Rattle.sweep_reader.specs.declared.change.Change.{Change}
use Rattle.sweep_reader.specs.declared.read.Tally.{Tally}

pub packet_read : (t : Tally) (held : CDPParser) (p captions filled after : List ℕ) (r : CDPParserRead)
    (digest accepted : ℕ)
    → filled ≡ replicate (length captions) 0xA5 → r ≡ read held p (length filled) → after ≡ buffer_after p filled
    → digest ≡ all_fed (reader_fed (answer_fed t.digest r.answer) r.parser) after
    → accepted ≡ counted_in t.accepted r.answer
    → (tally digest accepted ≡ packet_tallied t held p captions) × (after ≡ captions_after p captions)
unfolding packet_tallied tallied
packet_read t held p captions filled after r digest accepted f e a d n =
    let room : length filled ≡ length captions = ap length f ∙ length-replicate (length captions) 0xA5 in
    (rw (d, n, e, room, a, f), a ∙ ap (buffer_after p) f)

abbrev pub stand : Tally → List ℕ → List ℕ → Stand
stand t p captions = record { tally = t; packet = p; captions = captions }

module _ (held : CDPParser) (change : Change) (s : Stand) where
  pub values_none : s ≡ values_after held change s 0
  unfolding values_after
  values_none = refl

  pub values_more : (n : ℕ) (t u : Tally) (p q captions after : List ℕ)
      → stand t p captions ≡ values_after held change s n
      → u ≡ packet_tallied t held (changed_packet change n p) captions → q ≡ changed_packet change n p
      → after ≡ captions_after (changed_packet change n p) captions
      → stand u q after ≡ values_after held change s (n + 1)
  unfolding values_after
  values_more n t u p q captions after h e f g = rw (e, f, g, add-one n, ← h)

  pub values_all : (n : ℕ) (t : Tally) (p captions : List ℕ) → stand t p captions ≡ values_after held change s n
      → n ≡ 256
      → (t ≡ (values_after held change s 256).tally)
      × ((p ≡ (values_after held change s 256).packet) × (captions ≡ (values_after held change s 256).captions))
  values_all n t p captions h e =
      let all : stand t p captions ≡ values_after held change s 256 = rw e at h in
      (ap (λ (x : Stand). x.tally) all, (ap (λ (x : Stand). x.packet) all, ap (λ (x : Stand). x.captions) all))
