-- The page's size, added up vector after vector. Assumes nothing.
use mathlib.Core.Path.{◌≡◌, sym, ap, ◌∙◌, subst}
use mathlib.Core.List.{List}
use Prim.Native.Nat.{ℕ, ◌+◌, ◌*◌, ◌^◌, ◌<◌}
use native.Mathlib.Omega.{arith}
use lib.ListN.{length, length-append}
use lib.Ieee.{Format}
use Rattle.rules.specs.Decimal.{Pair}
use Rattle.rules.specs.Vector.{Raw, tries}
use Rattle.rules.specs.Page.{bodies}
use Rattle.rules.specs.Write.{page_size}
use Rattle.encode.specs.Vectors.{bytes_of}
use Rattle.encode.specs.Seen.{Seen, seen_of, size_seen}
use Rattle.encode.proofs.Whole.{vector-long}
use Rattle.writer.specs.Recorded.{pair_at}
use Rattle.writer.proofs.Vectors.{left, Next, Planned, Cut, page_long, page_small, cut_start, cut_next_is, cut_next, cut_end}

-- what has been added, and what is left, are the page
pub record Measuring (fmt : Format) (s size count : ℕ) (bs vs : List ℕ) (i : ℕ) (xs : List ℕ) (total : ℕ) : Type 0 where
  pub cut : Cut fmt size count bs vs i xs
  pub sum : total + length (bodies fmt (left fmt size bs i xs)) ≡ page_size fmt s bs vs

module _ {fmt : Format} {s size count : ℕ} {bs vs : List ℕ} (t : Planned fmt s size count bs vs) where
  at_first : Measuring fmt s size count bs vs 0 vs (8 + 4 * count)
  at_first = record { cut = cut_start t; sum = page_long t }

  pub measuring_start : (i : ℕ) (xs : List ℕ) → i ≡ 0 → xs ≡ vs → Measuring fmt s size count bs vs i xs (8 + 4 * count)
  measuring_start i xs ei ex = subst (λ (k : ℕ). Measuring fmt s size count bs vs k xs (8 + 4 * count)) (sym ei) (subst (λ (ys : List ℕ). Measuring fmt s size count bs vs 0 ys (8 + 4 * count)) (sym ex) at_first)

  module _ {i total : ℕ} {xs : List ℕ} (m : Measuring fmt s size count bs vs i xs total) where
    pub total_small : total < 2 ^ 32
    total_small = omega (arith, m.sum, page_small t)

    -- the next vector was scanned with its pair, and takes r bytes; j is the number of the one behind it
    pub measuring_next : {part rest : List ℕ} → Next size xs part rest → (p : Pair) → p ≡ pair_at bs (2 * i) → (seen : Seen) → seen ≡ seen_of (tries fmt p part) → (r : ℕ) → r ≡ size_seen fmt seen
        → (j : ℕ) → j ≡ i + 1 → Measuring fmt s size count bs vs j rest (total + r)
    unfolding bodies
    measuring_next {part} {rest} n p ep seen es r er j ej =
        let behind : List Raw = left fmt size bs (i + 1) rest in
        let long : r ≡ length (bytes_of fmt (pair_at bs (2 * i)) part) = er ∙ vector-long fmt p part seen es ∙ ap (λ (q : Pair). length (bytes_of fmt q part)) ep in
        let split : length (bodies fmt (left fmt size bs i xs)) ≡ r + length (bodies fmt behind) =
        ap (λ (rs : List Raw). length (bodies fmt rs)) (cut_next_is t m.cut n)
        ∙ length-append (bytes_of fmt (pair_at bs (2 * i)) part) (bodies fmt behind) ∙ ap (λ (k : ℕ). k + length (bodies fmt behind)) (sym long) in
        subst (λ (k : ℕ). Measuring fmt s size count bs vs k rest (total + r)) (sym ej) (record { cut = cut_next t m.cut n; sum = omega (arith, m.sum, split) })

    pub measuring_end : length xs ≡ 0 → total ≡ page_size fmt s bs vs
    unfolding bodies
    measuring_end h =
        let none : length (bodies fmt (left fmt size bs i xs)) ≡ 0 = ap (λ (rs : List Raw). length (bodies fmt rs)) (cut_end t m.cut h) in
        omega (arith, m.sum, none)
