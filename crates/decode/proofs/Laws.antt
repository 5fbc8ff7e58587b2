-- What the steps over one vector come to, over the kind: the listed values put one by one, and the vector's values. Assumes nothing.
use mathlib.Core.Path.{◌≡◌, refl, sym, ap, ap₂, ◌∙◌, subst}
use mathlib.Core.List.{List, ◌∷◌, map}
use Prim.Native.Nat.{ℕ, ◌+◌, ◌-◌, ◌*◌, ◌≤◌, ◌<◌}
use native.Mathlib.Nat.{mul_comm}
use native.Mathlib.Omega.{arith}
use lib.ListN.{length, take, drop, set, length-set}
use lib.Seq.{drop-drop}
use lib.Ieee.{Format}
use Rattle.bits.specs.Words.{WordLaws}
use Rattle.bits.proofs.WordLists as words
use Rattle.digits.specs.Digits.{number, numbers, packed_size, unpack}
use Rattle.digits.specs.Lists.{Each}
use Rattle.digits.proofs.Rows.{length-numbers, numbers-at, numbers-start, numbers-end}
use Rattle.rules.specs.Kind.{meta_bytes, word_bytes}
use Rattle.rules.specs.Decimal.{Pair, back}
use Rattle.rules.specs.Vector.{Raw, fields, wholes, decoded}
use Rattle.rules.specs.Page.{raw_from}
use Rattle.rules.specs.Write.{Allowed}
use Rattle.rules.specs.Page as page
use Rattle.rules.proofs.Reading.{Rising, Passed}
use Rattle.rules.proofs.Marks.{replaced, rising-below}
use Rattle.rules.proofs.Decoded.{decoded-replaced}
use Rattle.decimal.specs.Turn.{turned}
use Rattle.decimal.proofs.Turns.{turned-fields}
use Rattle.checks.specs.Forms.{as_meta}
use Rattle.checks.proofs.Bounds.{cut-is, packed-inside, packed-holds}
use Rattle.checks.specs.declared.vector.Meta.{Meta}
use Rattle.decode.specs.Readable.{Readable, values_at}

-- ---- the listed values: positions of 2 bytes from `at` on, values of k bytes from `behind` on

-- those from index i on
abbrev places-left : List ℕ → ℕ → ℕ → ℕ → List ℕ
places-left part at listed i = numbers 2 (listed - i) (drop (at + 2 * i) part)

abbrev values-left : ℕ → List ℕ → ℕ → ℕ → ℕ → List ℕ
values-left k part behind listed i = numbers k (listed - i) (drop (behind + k * i) part)

-- those before i are put: what is left to put makes of `out` what all make of `out₀`
pub record Putting (k : ℕ) (part : List ℕ) (at behind listed : ℕ) (out₀ : List ℕ) (i : ℕ) (out : List ℕ) : Type 0 where
  pub same : length out ≡ length out₀
  pub below : Each (λ (p : ℕ). p < length out₀) (places-left part at listed i)
  pub rest : replaced (numbers 2 listed (drop at part)) (numbers k listed (drop behind part)) out₀ ≡ replaced (places-left part at listed i) (values-left k part behind listed i) out

module _ {A : Type 0} {as-number : A → ℕ} {as-numbers : List A → List ℕ} (laws : WordLaws as-number as-numbers) (k : ℕ) (part : List ℕ) (at behind listed : ℕ) (out₀ : List A) where
  abbrev Put : ℕ → List A → Type 0
  Put i out = Putting k part at behind listed (as-numbers out₀) i (as-numbers out)

  pub putting_start : Each (λ (p : ℕ). p < length out₀) (numbers 2 listed (drop at part)) → Put 0 out₀
  putting_start h = record {
    same = refl;
    below = rw (words.length-numbers laws out₀) (subst (Each (λ (p : ℕ). p < length out₀)) (numbers-start 2 listed at part) h);
    rest = ap₂ (λ (x y : List ℕ). replaced x y (as-numbers out₀)) (numbers-start 2 listed at part) (numbers-start k listed behind part);
  }

  module _ (i : ℕ) (out : List A) (u : Put i out) where
    module _ (p : ℕ) (more : i < listed) (ep : p ≡ number (take 2 (drop (at + 2 * i) part))) where
      places-next : places-left part at listed i ≡ p ∷ places-left part at listed (i + 1)
      places-next = numbers-at 2 listed i at part more ∙ ap (λ (y : ℕ). y ∷ places-left part at listed (i + 1)) (sym ep)

      below_next : (p < length (as-numbers out₀)) × Each (λ (p : ℕ). p < length (as-numbers out₀)) (places-left part at listed (i + 1))
      below_next = subst (Each (λ (p : ℕ). p < length (as-numbers out₀))) places-next u.below

      pub putting_room : p < length out
      putting_room = omega (arith, u.same, below_next.0, words.length-numbers laws out)

      pub putting_next : (x : A) → as-number x ≡ number (take k (drop (behind + k * i) part)) → Put (i + 1) (set out p x)
      unfolding replaced
      putting_next x ex =
          let values : values-left k part behind listed i ≡ as-number x ∷ values-left k part behind listed (i + 1) =
          numbers-at k listed i behind part more ∙ ap (λ (y : ℕ). y ∷ values-left k part behind listed (i + 1)) (sym ex) in
          rw (words.set-numbers laws out p x)
          record {
            same = simp length-set u.same;
            below = below_next.1;
            rest = u.rest ∙ ap₂ (λ (y z : List ℕ). replaced y z (as-numbers out)) places-next values;
          }

    pub putting_end : listed ≤ i → as-numbers out ≡ replaced (numbers 2 listed (drop at part)) (numbers k listed (drop behind part)) (as-numbers out₀)
    unfolding replaced
    putting_end h = sym (u.rest ∙ ap (λ (y : List ℕ). replaced y (values-left k part behind listed i) (as-numbers out)) (numbers-end 2 listed i (drop (at + 2 * i) part) h))

-- ---- one vector

module _ (fmt : Format) (n : ℕ) (part : List ℕ) (m : Meta) (q : Readable fmt n part m) where
  -- what its rows show, of the metadata as the code holds it
  pub readable : Passed fmt n (as_meta m) part
  readable = subst (λ (x : page.Meta). Passed fmt n x part) (sym q.found.meta_is) q.passed

  abbrev front : ℕ
  front = meta_bytes fmt + packed_size n m.width

  pub pair-allowed : Allowed fmt (as_meta m).pair
  pair-allowed = record { exponent = readable.exponent; factor = readable.factor }

  raw : Raw
  raw = raw_from fmt n (as_meta m) (drop (meta_bytes fmt) part)

  positions-are : raw.positions ≡ numbers 2 m.listed (drop front part)
  unfolding raw raw_from
  positions-are = ap (numbers 2 m.listed) (drop-drop (packed_size n m.width) (meta_bytes fmt) part)

  exceptions-are : raw.exceptions ≡ numbers (word_bytes fmt) m.listed (drop (front + 2 * m.listed) part)
  unfolding raw raw_from
  exceptions-are =
      ap (numbers (word_bytes fmt) m.listed)
      (ap (drop (m.listed * 2)) (drop-drop (packed_size n m.width) (meta_bytes fmt) part) ∙ drop-drop (m.listed * 2) front part ∙ ap (λ (x : ℕ). drop (front + x) part) (mul_comm m.listed 2))

  rises : Rising raw.count 0 raw.positions
  unfolding raw raw_from
  rises = readable.rising

  -- its packed fields, `size` bytes from `start` on, are there; behind them its listed values, of `wide` bytes each
  module _ (start size wide : ℕ) (es : start ≡ meta_bytes fmt) (ez : size ≡ packed_size n m.width) (ew : wide ≡ word_bytes fmt) where
    behind-is : start + size ≡ front
    behind-is = ap₂ (λ (x y : ℕ). x + y) es ez

    pub fields-inside : start + size ≤ length part
    fields-inside = packed-inside fmt n (as_meta m) part readable.whole start size es ez

    pub fields-held : n * m.width ≤ 8 * length (take (start + size - start) (drop start part))
    fields-held = packed-holds fmt n (as_meta m) part readable.whole start size es ez

    pub listed-inside : start + size + m.listed * (2 + wide) ≤ length part
    listed-inside = rw ew (omega (arith, es, ez, readable.whole))

    placed : raw.positions ≡ numbers 2 m.listed (drop (start + size) part)
    placed = positions-are ∙ ap (λ (x : ℕ). numbers 2 m.listed (drop x part)) (sym behind-is)

    pub places-below : (k : ℕ) → k ≡ n → Each (λ (p : ℕ). p < k) (numbers 2 m.listed (drop (start + size) part))
    unfolding raw
    places-below k ek = rw ek (subst (Each (λ (p : ℕ). p < n)) placed (rising-below n 0 raw.positions readable.rising))

    -- what the three steps leave: the fields unpacked, each turned, the listed values put
    module _ (p : Pair) (frame : ℕ) (fs ts end : List ℕ) (ep : p ≡ (as_meta m).pair) (er : frame ≡ m.frame)
        (ef : fs ≡ unpack m.width n (take (start + size - start) (drop start part))) (et : ts ≡ map (turned fmt p frame) fs)
        (ee : end ≡ replaced (numbers 2 m.listed (drop (start + size) part)) (numbers wide m.listed (drop (start + size + 2 * m.listed) part)) ts) where
      fields-are : fs ≡ fields raw
      unfolding raw raw_from fields
      fields-are = ef ∙ ap₂ (λ (k j : ℕ). unpack m.width n (take k (drop j part))) (cut-is start size n m.width ez) es

      turned-are : ts ≡ map (back fmt raw.pair) (wholes fmt raw)
      unfolding raw raw_from
      turned-are =
          let step : ts ≡ map (turned fmt (as_meta m).pair m.frame) fs = et ∙ ap₂ (λ (x : Pair) (y : ℕ). map (turned fmt x y) fs) ep er in
          step ∙ ap (map (turned fmt (as_meta m).pair m.frame)) fields-are ∙ turned-fields fmt raw q.found.frame readable.held

      pub values-are : end ≡ values_at fmt n part
      unfolding raw
      values-are =
          let stored : numbers wide m.listed (drop (start + size + 2 * m.listed) part) ≡ raw.exceptions =
          ap₂ (λ (w x : ℕ). numbers w m.listed (drop (x + 2 * m.listed) part)) ew behind-is ∙ sym exceptions-are in
          let paired : length raw.positions ≡ length raw.exceptions =
          ap length positions-are ∙ length-numbers 2 m.listed (drop front part) ∙ sym (ap length exceptions-are ∙ length-numbers (word_bytes fmt) m.listed (drop (front + 2 * m.listed) part)) in
          ee ∙ ap₂ (λ (x y : List ℕ). replaced x y ts) (sym placed) stored ∙ ap (replaced raw.positions raw.exceptions) turned-are
          ∙ sym (decoded-replaced fmt raw rises paired)
          ∙ ap (λ (x : page.Meta). decoded fmt (raw_from fmt n x (drop (meta_bytes fmt) part))) q.found.meta_is
