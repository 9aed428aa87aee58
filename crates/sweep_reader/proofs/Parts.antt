-- The services of a packet, one after the other; and a packet that is put and finished.
-- Assumes nothing.
use Rattle.std.proofs.Common.{◌≡◌, ℕ, ◌+◌, List, [], ◌++◌, length, take, drop, sym, refl, ap, ◌∙◌, add-one}
use Rattle.basis.specs.Bytes.{over}
use Rattle.sweep_reader.specs.Make.{entries_made, entry_made, finished, packet_made, parts_made}
use Rattle.text.specs.Room.{PutInRoom}
use Rattle.sweep_reader.specs.declared.recipes.Recipe.{Recipe}
use Rattle.sweep_reader.proofs.Mends.{length_finished}
use Rattle.text.proofs.Rooms.{put_again, put_size, put_there}

pub entries_none : (packet : ℕ) → entries_made packet 0 ≡ []
unfolding entries_made
entries_none packet = refl

pub entries_more : (packet k : ℕ) → entries_made packet k ++ entry_made packet k ≡ entries_made packet (k + 1)
unfolding entries_made
entries_more packet k = rw (add-one k)

-- a packet that is put, and then finished where it stands
pub packet_put : (r : Recipe) (end : ℕ) (buffer after done : List ℕ) → PutInRoom 0 (parts_made r) buffer end after
    → done ≡ finished r.behind (take end after)
    → (end ≡ length (packet_made r (length buffer)))
    × (done ++ drop end after ≡ over 0 (packet_made r (length buffer)) buffer)
unfolding packet_made
packet_put r end buffer after done p e =
    let w : List ℕ = take (length buffer) (parts_made r) in
    let made : done ≡ finished r.behind w = rw (put_there p) at e in
    let size : length done ≡ end = ap length made ∙ length_finished r.behind w ∙ sym (put_size p) in
    (rw (← made) (sym size), rw (← made) (put_again p done size))
