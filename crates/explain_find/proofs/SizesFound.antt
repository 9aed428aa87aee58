-- Answer 1: what the definition gives where a packet ends in a part, those in front of it being whole.
-- Assumes nothing.
use mathlib.Core.List.{List}
use mathlib.Core.Path.{◌≡◌}
use Prim.Native.Nat.{ℕ, ◌+◌, ◌≤◌, ◌<◌}
use borrow.Author.Tests.{eq-eqb, le-ltb, lt-ltb, ne_eqb}
use lib.ListN.{length}
use Rattle.basis.specs.Bytes.{byte}
use Rattle.basis.specs.declared.test.SizeTest.TheVariants.{
  CaptionsHead,
  CaptionsWhole,
  ClosingHead,
  PacketLeast,
  PacketSize,
  ServicesHead,
  ServicesWhole,
  TimeWhole,
}
use Rattle.read_packet.specs.Packet.{captions_at, closing_at, services_at}
use Rattle.explain_find.specs.Code.{closing_test, size_test}

module _ (p : List ℕ) where
  pub too_few : length p < 11 → PacketLeast ≡ size_test p
  unfolding size_test
  too_few a = simp (lt-ltb _ _ a)

  module _ (enough : 11 ≤ length p) where
    pub other_size : (byte p 2 ≡ length p → ⊥) → PacketSize ≡ size_test p
    unfolding size_test
    other_size a = simp (le-ltb _ _ enough, ne_eqb _ _ a)

    module _ (said : byte p 2 ≡ length p) where
      pub in_time : length p < captions_at p → TimeWhole ≡ size_test p
      unfolding size_test
      in_time a = simp (le-ltb _ _ enough, eq-eqb _ _ said, lt-ltb _ _ a)

      module _ (time : captions_at p ≤ length p) where
        module _ (cut : length p < services_at p) where
          pub at_captions : length p < captions_at p + 2 → CaptionsHead ≡ size_test p
          unfolding size_test
          at_captions a = simp (le-ltb _ _ enough, eq-eqb _ _ said, le-ltb _ _ time, lt-ltb _ _ cut, lt-ltb _ _ a)

          pub in_captions : captions_at p + 2 ≤ length p → CaptionsWhole ≡ size_test p
          unfolding size_test
          in_captions a = simp (le-ltb _ _ enough, eq-eqb _ _ said, le-ltb _ _ time, lt-ltb _ _ cut, le-ltb _ _ a)

        module _ (captions : services_at p ≤ length p) where
          module _ (cut : length p < closing_at p) where
            pub at_services : length p < services_at p + 2 → ServicesHead ≡ size_test p
            unfolding size_test
            at_services a =
                simp (
                  le-ltb _ _ enough,
                  eq-eqb _ _ said,
                  le-ltb _ _ time,
                  le-ltb _ _ captions,
                  lt-ltb _ _ cut,
                  lt-ltb _ _ a,
                )

            pub in_services : services_at p + 2 ≤ length p → ServicesWhole ≡ size_test p
            unfolding size_test
            in_services a =
                simp (
                  le-ltb _ _ enough,
                  eq-eqb _ _ said,
                  le-ltb _ _ time,
                  le-ltb _ _ captions,
                  lt-ltb _ _ cut,
                  le-ltb _ _ a,
                )

          module _ (services : closing_at p ≤ length p) where
            pub at_closing : length p < closing_at p + 2 → ClosingHead ≡ size_test p
            unfolding size_test
            at_closing a =
                simp (
                  le-ltb _ _ enough,
                  eq-eqb _ _ said,
                  le-ltb _ _ time,
                  le-ltb _ _ captions,
                  le-ltb _ _ services,
                  lt-ltb _ _ a,
                )

            pub in_closing : closing_at p + 2 ≤ length p → closing_test (length p) p (closing_at p) ≡ size_test p
            unfolding size_test
            in_closing a =
                simp (
                  le-ltb _ _ enough,
                  eq-eqb _ _ said,
                  le-ltb _ _ time,
                  le-ltb _ _ captions,
                  le-ltb _ _ services,
                  le-ltb _ _ a,
                )
