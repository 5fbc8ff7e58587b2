-- The conditions of row 22 at one position, and row 24's, as the code finds them, over the kind. Assumes nothing.
use Rattle.std.proofs.Common.{◌≡◌, ℕ, ◌+◌, ◌*◌, ◌^◌, ◌<◌, true, false, not, ◌||◌, List, get_or, take, drop, ℤ, sym, refl, ap, ◌∙◌, mul_comm, drop-drop, pow_pos, to_z-of_z, to_z, of_z, eq-eqb, ne_eqb}
use Rattle.std.specs.Prelude as std
use Rattle.std.specs.Prelude.{Some, None, is_some}
use Rattle.std.proofs.lemmas.Bool.{false≢true, true≢false}
use mathlib.Core.Option.{Option, none, some}
use lib.Signed.{mag}
use lib.Ieee.{Format, size}
use mir.Syntax.{w64}
use mir.Val.{hbits, SFits}
use mir.Facts.{of_z-to_z, Fits-of_lt}
use Rattle.digits.specs.Digits.{number, numbers}
use Rattle.digits.specs.Lists.{Each}
use Rattle.digits.proofs.Rows.{get_or-numbers}
use Rattle.rules.specs.Kind.{word}
use Rattle.rules.specs.Decimal.{Pair, exception, tried}
use Rattle.rules.specs.Vector.{Raw, least, greatest, width_of, fields, wholes}
use Rattle.rules.specs.Page.{Meta}
use Rattle.rules.specs.Verdict.{fine, refuse, verdict, row, in_vector, ◌isnt◌}
use Rattle.rules.specs.Examine.{needless, unfilled, frame_off, width_off}
use Rattle.rules.proofs.Order.{least-one}
use Rattle.rules.proofs.Tries.{Held, some_kept, none_excepted}
use Rattle.decimal.specs.Turn.{as_try}
use Rattle.inspect.specs.Seen.{seen, FieldsLaid, mark_of, mark_at}

-- ---- an index that may be there: what is stored counts only in row 22

pub marked_if : (d z : ℤ) (x : ℕ) (xs : List ℕ) (o : std.Option ℕ) → is_some o ≡ true → unfilled d z (mark_of true x) ≡ unfilled d z (mark_at xs o)
marked_if d z x xs (Some j) e = refl
marked_if d z x xs None e = absurd (false≢true e)

pub unmarked_if : (x : ℕ) (xs : List ℕ) (o : std.Option ℕ) → is_some o ≡ false → mark_of false x ≡ mark_at xs o
unmarked_if x xs (Some j) e = absurd (true≢false e)
unmarked_if x xs None e = refl

-- ---- 22, which asks for no whole number

pub needless_any : (fmt : Format) (p : Pair) (y z : ℤ) (m : Option ℕ) → needless fmt p y m ≡ needless fmt p z m
needless_any fmt p y z none = refl
needless_any fmt p y z (some b) = refl

-- b is the value stored for the position, t its whole number or none

pub whole_kept : (fmt : Format) (p : Pair) (b x : ℕ) → b ≡ x → (t : std.Option ℤ) → as_try t ≡ tried fmt p b → is_some t ≡ not (exception fmt p x)
whole_kept fmt p b x is t q = go t q ∙ ap (λ (n : ℕ). not (exception fmt p n)) is
  where
    go : (t : std.Option ℤ) → as_try t ≡ tried fmt p b → is_some t ≡ not (exception fmt p b)
    go (Some y) q = sym (ap not (some_kept fmt p b y (sym q)))
    go None q = sym (ap not (none_excepted fmt p b (sym q)))

-- where the j-th value of `wide` bytes is read
pub value-is : (b wide listed j : ℕ) (lists : List ℕ) (x at : ℕ) → wide ≡ b → j < listed → at ≡ 2 * listed + wide * j → x ≡ number (take wide (drop at lists)) → x ≡ get_or (numbers b listed (drop (listed * 2) lists)) j 0
value-is b wide listed j lists x at eb h ea e =
    e ∙ ap (λ (k : ℕ). number (take wide (drop k lists))) (ea ∙ ap (λ (k : ℕ). k + wide * j) (mul_comm 2 listed))
    ∙ ap (λ (n : ℕ). number (take n (drop (listed * 2 + n * j) lists))) eb
    ∙ ap (λ (l : List ℕ). number (take b l)) (sym (drop-drop (b * j) (listed * 2) lists)) ∙ sym (get_or-numbers b listed (drop (listed * 2) lists) j h)

-- ---- 24: the whole numbers are in the signed range, and so is the smallest

module _ (fmt : Format) (v n : ℕ) (m : Meta) (packed : List ℕ) (laid : FieldsLaid fmt n m packed) (lists : List ℕ) where
  abbrev r : Raw
  r = seen fmt n m packed lists

  held : Each (Held fmt) (wholes fmt r)
  unfolding wholes fields
  held = laid.held

  -- the frame's word is the smallest's where the two are one number
  smallest-fits : SFits (word fmt) (least (wholes fmt r))
  smallest-fits = record { sfits = least-one (Held fmt) (wholes fmt r) (pow_pos (hbits (word fmt))) held }

  -- x is the frame's number as the code reads it, s the smallest
  module _ (x s : ℤ) (hx : mag x < 2 ^ 63) (hs : mag s < 2 ^ 63) (ex : x ≡ to_z (word fmt) r.frame) (es : s ≡ least (wholes fmt r)) where
    pub no24_frame : (of_z w64 x ≡ of_z w64 s → ⊥) → refuse 24 (in_vector v) ≡ verdict (row 24 (in_vector v) (frame_off fmt r || width_off r))
    no24_frame h =
        let other : r.frame ≡ of_z (word fmt) (least (wholes fmt r)) → ⊥ = λ e. h (ap (of_z w64) (ex ∙ ap (to_z (word fmt)) e ∙ to_z-of_z {w = word fmt} {z = least (wholes fmt r)} smallest-fits ∙ sym es)) in
        rw (ne_eqb r.frame (of_z (word fmt) (least (wholes fmt r))) other)

    module _ (e : of_z w64 x ≡ of_z w64 s) (f : ℕ) (ef : f ≡ size (greatest (fields r))) where
      same : to_z (word fmt) r.frame ≡ least (wholes fmt r)
      same = sym ex ∙ sym (to_z-of_z {w = w64} {z = x} (record { sfits = hx })) ∙ ap (to_z w64) e ∙ to_z-of_z {w = w64} {z = s} (record { sfits = hs }) ∙ es

      frame-passes : verdict (row 24 (in_vector v) (frame_off fmt r || width_off r)) ≡ verdict (row 24 (in_vector v) (r.width isnt f))
      unfolding width_of
      frame-passes =
          let smallest-is : of_z (word fmt) (least (wholes fmt r)) ≡ r.frame = ap (of_z (word fmt)) (sym same) ∙ of_z-to_z {w = word fmt} (Fits-of_lt laid.framed) in
          rw (smallest-is, eq-eqb r.frame r.frame refl, ef)

      pub no24_width : (r.width ≡ f → ⊥) → refuse 24 (in_vector v) ≡ verdict (row 24 (in_vector v) (frame_off fmt r || width_off r))
      no24_width h = rw (frame-passes, ne_eqb r.width f h)

      pub passes24 : r.width ≡ f → fine ≡ verdict (row 24 (in_vector v) (frame_off fmt r || width_off r))
      passes24 h = rw (frame-passes, eq-eqb r.width f h)
