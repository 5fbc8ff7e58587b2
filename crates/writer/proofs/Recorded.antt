-- The records that measuring keeps, and that writing finds them where it needs them. Assumes nothing.
use mathlib.Core.Path.{◌≡◌, sym, ap₂, ◌∙◌, subst}
use mathlib.Core.List.{List}
use Prim.Native.Nat.{ℕ, ◌+◌, ◌*◌, ◌<◌}
use native.Mathlib.Nat.{lt_of_not-le}
use native.Mathlib.Decide.{dec_le}
use native.Mathlib.Omega.{arith}
use lib.ListN.{length, set}
use lib.Ieee.{Format}
use Rattle.rules.specs.Decimal.{Pair}
use Rattle.rules.specs.Vector.{tries}
use Rattle.rules.specs.Page.{vectors}
use Rattle.encode.specs.Seen.{as_seen, seen_of}
use Rattle.encode.specs.Records.{RecordedAt}
use Rattle.encode.specs.declared.scan.Seen as code
use Rattle.encode.proofs.Kept.{recorded_here, recorded_there}
use Rattle.writer.specs.Recorded.{pair_at, record_of, RecordedTo, Recorded}
use Rattle.writer.proofs.Vectors.{Next, Planned, Cut, turn, part_is}

-- none is kept at first
pub recorded_none : (fmt : Format) (size : ℕ) (bs vs : List ℕ) (k : ℕ) (l : List code.Seen) → k ≡ 0 → RecordedTo fmt size bs vs k l
recorded_none fmt size bs vs k l e i h = absurd (omega arith)

module _ {fmt : Format} {s size count : ℕ} {bs vs : List ℕ} (t : Planned fmt s size count bs vs) where
  -- all vectors' records, once the last is kept
  pub recorded_all : (l : List code.Seen) (k : ℕ) → count ≡ k → RecordedTo fmt size bs vs k l → Recorded fmt s bs vs l
  recorded_all l k e r = subst (λ (n : ℕ). RecordedTo fmt n bs vs (vectors s (length vs)) l) t.size_is (subst (λ (n : ℕ). RecordedTo fmt size bs vs n l) (sym e ∙ t.count_is) r)

  -- vector i has these values, with the pair p
  module _ {i : ℕ} {xs part rest : List ℕ} (c : Cut fmt size count bs vs i xs) (n : Next size xs part rest) (p : Pair) (ep : p ≡ pair_at bs (2 * i)) where
    record_is : seen_of (tries fmt p part) ≡ record_of fmt size bs vs i
    record_is = ap₂ (λ (q : Pair) (l : List ℕ). seen_of (tries fmt q l)) ep (part_is t c n)

    one_more : (l : List code.Seen) (a : code.Seen) → RecordedTo fmt size bs vs i l → as_seen a ≡ seen_of (tries fmt p part) → RecordedTo fmt size bs vs (i + 1) (set l i a)
    one_more l a r e j h = elim (dec_le i j) [
      | yes up ↦ (let same : i ≡ j = omega arith in subst (λ (k : ℕ). RecordedAt as_seen (set l i a) k (record_of fmt size bs vs k)) same (recorded_here as_seen l i a (record_of fmt size bs vs i) (e ∙ record_is)))
      | no down ↦ (let less = lt_of_not-le down in recorded_there as_seen l i a j (record_of fmt size bs vs j) (λ q. absurd (omega (arith, less, q))) (r j less))
    ]

    -- its record is one more
    pub recorded_more : (l : List code.Seen) (a : code.Seen) → RecordedTo fmt size bs vs i l → as_seen a ≡ seen_of (tries fmt p part) → (l' : List code.Seen) → l' ≡ set l i a → (k : ℕ) → k ≡ i + 1 → RecordedTo fmt size bs vs k l'
    recorded_more l a r e l' el k ek = subst (λ (n : ℕ). RecordedTo fmt size bs vs n l') (sym ek) (subst (RecordedTo fmt size bs vs (i + 1)) (sym el) (one_more l a r e))

    -- it was kept
    pub record_kept : (l : List code.Seen) → Recorded fmt s bs vs l → RecordedAt as_seen l i (seen_of (tries fmt p part))
    record_kept l r =
        subst (RecordedAt as_seen l i) (sym record_is) (subst (λ (k : ℕ). RecordedAt as_seen l i (record_of fmt k bs vs i)) (sym t.size_is) (r i (subst (λ (k : ℕ). i < k) t.count_is (turn t c n))))
