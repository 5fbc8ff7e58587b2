-- A vector written part after part: its metadata, its packed fields, its exceptions. Assumes nothing.
use mathlib.Core.Path.{◌≡◌, refl, sym, ap, ap₂, ◌∙◌, subst}
use mathlib.Core.List.{List, ◌++◌, append_assoc}
use mathlib.Core.Option.{Option}
use Prim.Native.Nat.{ℕ, ◌+◌, ◌-◌, ◌*◌, ◌≤◌}
use native.Mathlib.Nat.{mul-add}
use native.Mathlib.Omega.{arith}
use lib.ListN.{length, take, drop, length-append, length-map, length-take, length-drop}
use lib.IntN.{ℤ}
use lib.Ieee.{Format}
use lib.Pow.{pow_pos}
use mir.Val.{of_z, hbits, SFits}
use borrow.Rule.Slice.PartMut.{put_mid}
use Rattle.digits.specs.Digits.{les, pack, packed_size}
use Rattle.digits.specs.Lists.{over}
use Rattle.digits.proofs.Lists.{length_over}
use Rattle.digits.proofs.Pack.{length-pack}
use Rattle.digits.proofs.Rows.{length-les}
use Rattle.digits.proofs.Stream.{stage_mid}
use Rattle.rules.specs.Kind.{word, word_bytes, meta_bytes}
use Rattle.rules.specs.Decimal.{Pair, tried}
use Rattle.rules.specs.Vector.{tries, the_stand_in, filled, least, width_of, places, picks, encoded, raw_of}
use Rattle.rules.specs.Page.{metadata, payload, vector_bytes, size_of}
use Rattle.rules.proofs.Order.{least-one}
use Rattle.rules.proofs.Tries.{Held, tried-some}
use Rattle.rules.proofs.Vectors.{turns-filled}
use Rattle.rules.proofs.Encoded.{picks-paired}
use Rattle.rules.proofs.Pages.{length-metadata}
use Rattle.encode.specs.Vectors.{Short, fields_in, bytes_of, meta_with}
use Rattle.encode.specs.Seen.{Seen, seen_of, Kept, width_seen, packed_end, size_seen}
use Rattle.encode.proofs.Record.{seen-kept, seen-width, seen_size}
use Rattle.encode.proofs.Packed.{long-fields}

-- s is the record of the values vs
module _ (fmt : Format) (p : Pair) (vs : List ℕ) (s : Seen) (e : s ≡ seen_of (tries fmt p vs)) where
  abbrev ts : List (Option ℤ)
  ts = tries fmt p vs

  abbrev fs : List ℕ
  fs = fields_in fmt p vs

  pub kept_is : Short (length vs) → Kept fmt s
  kept_is h = subst (Kept fmt) (sym e) (seen-kept fmt p vs h)

  pub count-is : s.count ≡ length vs
  unfolding seen_of
  count-is = ap (λ (x : Seen). x.count) e ∙ length-map vs (tried fmt p)

  pub listed-is : s.listed ≡ length (places 0 ts)
  unfolding seen_of
  listed-is = ap (λ (x : Seen). x.listed) e

  pub stand-is : s.stand ≡ the_stand_in ts
  unfolding seen_of
  stand-is = ap (λ (x : Seen). x.stand) e

  pub smallest-is : s.smallest ≡ least (filled ts)
  unfolding seen_of
  smallest-is = ap (λ (x : Seen). x.smallest) e

  -- the kind's word holds it, as it holds every whole number of a value that is no exception
  pub smallest-held : SFits (word fmt) s.smallest
  smallest-held = record {
    sfits = subst (Held fmt) (sym smallest-is) (least-one (Held fmt) (filled ts) (pow_pos (hbits (word fmt))) (turns-filled fmt p (tried fmt p) (tried-some fmt p) vs));
  }

  pub width_is : width_seen s ≡ width_of fs
  width_is = ap width_seen e ∙ seen-width fmt p vs

  -- ---- the three parts

  unfoldable pub meta_part : List ℕ
  meta_part = metadata fmt (meta_with p (length (places 0 ts)) (of_z (word fmt) (least (filled ts))) (width_of fs))

  unfoldable pub packed_part : List ℕ
  packed_part = pack (width_of fs) fs

  unfoldable pub lists_part : List ℕ
  lists_part = les 2 (places 0 ts) ++ les (word_bytes fmt) (picks ts vs)

  bytes_are : bytes_of fmt p vs ≡ (meta_part ++ packed_part) ++ lists_part
  unfolding meta_part packed_part lists_part vector_bytes payload encoded raw_of
  bytes_are = simp append_assoc

  long-meta : length meta_part ≡ meta_bytes fmt
  unfolding meta_part
  long-meta = length-metadata fmt (meta_with p (length (places 0 ts)) (of_z (word fmt) (least (filled ts))) (width_of fs))

  long-packed : length packed_part ≡ packed_size (length vs) (width_seen s)
  unfolding packed_part
  long-packed = length-pack (width_of fs) fs ∙ ap₂ packed_size (long-fields fmt p vs) (sym width_is)

  long-lists : length lists_part ≡ s.listed * (2 + word_bytes fmt)
  unfolding lists_part
  long-lists =
      length-append (les 2 (places 0 ts)) (les (word_bytes fmt) (picks ts vs))
      ∙ ap₂ (λ (a b : ℕ). a + b) (length-les 2 (places 0 ts) ∙ ap (λ (n : ℕ). n * 2) (sym listed-is))
      (length-les (word_bytes fmt) (picks ts vs) ∙ ap (λ (n : ℕ). n * word_bytes fmt) (picks-paired 0 ts vs (length-map vs (tried fmt p)) ∙ sym listed-is))
      ∙ sym (mul-add s.listed 2 (word_bytes fmt))

  long-two : length (meta_part ++ packed_part) ≡ packed_end fmt s
  long-two =
      length-append meta_part packed_part ∙ ap₂ (λ (a b : ℕ). a + b) long-meta (long-packed ∙ ap (λ (n : ℕ). packed_size n (width_seen s)) (sym count-is))

  pub vector-long : size_seen fmt s ≡ length (bytes_of fmt p vs)
  vector-long = sym (ap length bytes_are ∙ length-append (meta_part ++ packed_part) lists_part ∙ ap₂ (λ (a b : ℕ). a + b) long-two long-lists)

  -- ---- one after the other into d

  module _ (d : List ℕ) (room : length (bytes_of fmt p vs) ≤ length d) where
    fits : size_seen fmt s ≤ length d
    fits = subst (λ (n : ℕ). n ≤ length d) (sym vector-long) room

    pub meta_room : meta_bytes fmt ≤ length d
    meta_room = omega (arith, fits)

    -- the metadata, as the code puts it
    pub meta_put : (listed frame width : ℕ) (o : List ℕ) → listed ≡ s.listed → frame ≡ of_z (word fmt) s.smallest → width ≡ width_seen s
        → o ≡ over (metadata fmt (meta_with p listed frame width)) d → o ≡ over meta_part d
    unfolding meta_part
    meta_put listed frame width o el ef ew eo =
        eo ∙ ap₂ (λ (l f : ℕ). over (metadata fmt (meta_with p l f width)) d) (el ∙ listed-is) (ef ∙ ap (of_z (word fmt)) smallest-is)
        ∙ ap (λ (w : ℕ). over (metadata fmt (meta_with p (length (places 0 ts)) (of_z (word fmt) (least (filled ts))) w)) d) (ew ∙ width_is)

    module _ (at : ℕ) (at-is : at ≡ packed_end fmt s) where
      module _ (o : List ℕ) (is : o ≡ over meta_part d) where
        meta_length : length o ≡ length d
        meta_length = ap length is ∙ length_over meta_part d (omega (arith, long-meta, meta_room))

        pub packed-end : at ≤ length o
        packed-end = omega (arith, at-is, fits, meta_length)

        -- the packed fields start where the metadata ends
        module _ (front : ℕ) (front_is : front ≡ meta_bytes fmt) where
          packed-size : at - front ≡ packed_size (length vs) (width_seen s)
          packed-size = ap₂ (λ (a f : ℕ). a - f) (at-is ∙ ap (λ (c : ℕ). meta_bytes fmt + packed_size c (width_seen s)) count-is) front_is ∙ omega arith

          pub packed-room : length (take (at - front) (drop front o)) ≡ packed_size (length vs) (width_seen s)
          packed-room = length-take (at - front) (drop front o) ∙ omega (arith, packed-size, packed-end, length-drop front o)

          pub packed-put : (last : List ℕ) (width : ℕ) → width ≡ width_seen s → last ≡ pack width fs → put_mid front (at - front) o last ≡ over (meta_part ++ packed_part) d
          unfolding packed_part
          packed-put last width ew el =
              stage_mid meta_part packed_part d o front is (long-meta ∙ sym front_is) last (at - front) (long-packed ∙ sym packed-size) (el ∙ ap (λ (w : ℕ). pack w fs) (ew ∙ width_is))

      module _ (end : ℕ) (end_is : end ≡ size_seen fmt s) (o : List ℕ) (is : o ≡ over (meta_part ++ packed_part) d) where
        two-length : length o ≡ length d
        two-length = ap length is ∙ length_over (meta_part ++ packed_part) d (omega (arith, long-two, fits))

        pub lists-end : end ≤ length o
        lists-end = omega (arith, end_is, fits, two-length)

        -- a bit pattern takes k bytes
        module _ (k : ℕ) (k_is : k ≡ word_bytes fmt) where
          lists-size : end - at ≡ s.listed * (2 + k)
          lists-size = ap₂ (λ (a b : ℕ). a - b) end_is at-is ∙ omega arith ∙ ap (λ (n : ℕ). s.listed * (2 + n)) (sym k_is)

          pub vector-put : (last : List ℕ) → last ≡ les 2 (places 0 ts) ++ les k (picks ts vs) → put_mid at (end - at) o last ≡ over (bytes_of fmt p vs) d
          unfolding lists_part
          vector-put last el =
              stage_mid (meta_part ++ packed_part) lists_part d o at is (long-two ∙ sym at-is) last (end - at)
              (long-lists ∙ ap (λ (n : ℕ). s.listed * (2 + n)) (sym k_is) ∙ sym lists-size) (el ∙ ap (λ (n : ℕ). les 2 (places 0 ts) ++ les n (picks ts vs)) k_is)
              ∙ ap (λ (b : List ℕ). over b d) (sym bytes_are)

-- the size of a vector's bytes is the rules'
pub bytes_size : (fmt : Format) (p : Pair) (vs : List ℕ) → length (bytes_of fmt p vs) ≡ size_of fmt (encoded fmt p vs)
bytes_size fmt p vs = sym (vector-long fmt p vs (seen_of (tries fmt p vs)) refl) ∙ seen_size fmt p vs
