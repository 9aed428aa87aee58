-- `text_why::WhyText::write_into`: the text is put together where the longest has room, and then handed over whole.
-- Assumes nothing.
use mathlib.Core.List.{List}
use mathlib.Core.Path.{◌≡◌, sym}
use Prim.Native.Nat.{ℕ}
use native.Mathlib.Omega.{arith}
use lib.ListN.{length-take, take}
use Rattle.text.proofs.Rooms.{all_there, put_counts}
use Rattle.text_why.specs.Explained.{why_text}
use Rattle.text_why.proofs.WhyMost.{why_most}
use Rattle.text_why.proofs.whole.WhyText.write_into.Goals as goal

pub slice_bounds-text-end : goal.slice_bounds-text-end
slice_bounds-text-end c =
    omega (arith, put_counts c.text_of-length.ensures, length-take c.text_of-length.result c.text_of-length.new.out)

pub slice_bounds-put_whole-end : goal.slice_bounds-put_whole-end
slice_bounds-put_whole-end c =
    sym (put_counts c.text_of-length.ensures)

pub returns : goal.returns
returns c =
    let input : List ℕ = c.args.input.now in
    let text : List ℕ = take c.text_of-length.result c.text_of-length.new.out in
    let all : text ≡ why_text input = all_there c.text_of-length.ensures (why_most input) in
    record {
      value = rw all at c.put_whole.ensures.value;
      out_after = rw all at c.put_whole.ensures.out_after;
    }
