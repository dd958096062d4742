-- Turns of the loops over the messages: what is kept of the first v messages, and what message v adds.
use Rattle.std.proofs.Common.{◌≡◌, ℕ, ◌+◌, ◌*◌, ◌<◌, ◌≤◌, min, Bool, true, false, cond, not, leb, List, [], ◌∷◌, ◌++◌, length, take, drop, replicate, filter, sym, refl, ap, ◌∙◌, ap₂, arith}
use lib.Seq.{paste}
use Rattle.std.proofs.lemmas.List.Edits.{paste-paste}
use Rattle.std.proofs.lemmas.List.Elements.{filter-append, filter_more}
use Rattle.std.proofs.lemmas.List.Filters.{length-filter_more}
use Rattle.std.proofs.lemmas.List.{append-nil, length-append, take-append-drop, take_all}
use Rattle.sheet.specs.Letters.{Sheet}
use Rattle.code.specs.Answers.{padded}
use Rattle.code.specs.Meaning.{Meaning, listing}
use Rattle.code.specs.Messages.{each, messages}
use Rattle.code.proofs.Numbering.{messages_count, message_at}
use Rattle.generator.specs.Generator.{fewest, nonzeros, blank}
use Rattle.generator.specs.Steps.{how_many, message, passes, added, written, lower}
use Rattle.generator.proofs.Buffers.{each_append, list_length, front_zeros}

-- the fewest of one more
fewest_push : (f : List ℕ → ℕ) (b : ℕ) (xs : List (List ℕ)) (x : List ℕ) → fewest f b (xs ++ x ∷ []) ≡ min (fewest f b xs) (f x)
fewest_push f b [] x = let z : min (f x) b ≡ min b (f x) = omega arith in z
fewest_push f b (y ∷ xs) x =
    let h = fewest_push f b xs x in
    let z : min (f y) (fewest f b (xs ++ x ∷ [])) ≡ min (min (f y) (fewest f b xs)) (f x) = omega arith in
    z

module _ (m : Meaning) where
  -- of the first v messages, those that pass a test
  abbrev pub Kept : (List ℕ → Bool) → ℕ → List (List ℕ)
  Kept f v = filter f (take v (messages m.p m.k))

  inside : (v : ℕ) → v < how_many m → v < length (messages m.p m.k)
  inside v h = let c = messages_count m.p m.k in omega arith

  -- message v comes last
  kept_more : (f : List ℕ → Bool) (v : ℕ) → 0 < m.p → v < how_many m → Kept f (v + 1) ≡ Kept f v ++ cond (f (message m v)) (message m v ∷ []) []
  kept_more f v pos h = filter_more f _ v [] (inside v h) ∙ ap (λ z. Kept f v ++ cond (f z) (z ∷ []) []) (message_at m.p m.k v pos h)

  -- after the last message all are kept that pass
  kept_all : (f : List ℕ → Bool) (v : ℕ) → how_many m ≤ v → Kept f v ≡ filter f (messages m.p m.k)
  kept_all f v h = ap (filter f) (take_all v (messages m.p m.k) (let c = messages_count m.p m.k in omega arith))

  -- the list of a sheet, as far as the first v messages make it
  module _ (s : Sheet) (t : ℕ) where
    -- a message scores at least t
    abbrev Scores : List ℕ → Bool
    Scores x = leb t (m.score s x)

    -- what the counting loop keeps: how many messages are in it
    pub record Counted (v count : ℕ) : Type 0 where
      pub exact : count ≡ length (Kept Scores v)
      pub few : count ≤ v

    module _ (v count : ℕ) (pos : 0 < m.p) (h : v < how_many m) (w : Counted v count) where
      grown : (b : Bool) → b ≡ passes m s t v → length (Kept Scores (v + 1)) ≡ length (Kept Scores v) + cond b 1 0
      grown b e =
          length-filter_more Scores _ v [] (inside v h) ∙ ap (λ z. length (Kept Scores v) + cond (Scores z) 1 0) (message_at m.p m.k v pos h)
          ∙ ap (λ z. length (Kept Scores v) + cond z 1 0) (sym e)

      pub counted_yes : (next : ℕ) → true ≡ passes m s t v → next ≡ count + 1 → Counted (v + 1) next
      counted_yes next e n = let g = grown true e in let x = w.exact in record { exact = omega arith; few = omega (arith, w.few) }

      pub counted_no : (next : ℕ) → false ≡ passes m s t v → next ≡ count → Counted (v + 1) next
      counted_no next e n = let g = grown false e in let x = w.exact in record { exact = omega arith; few = omega (arith, w.few) }

    pub counted_all : (v count : ℕ) → how_many m ≤ v → Counted v count → count ≡ length (listing m s t)
    unfolding listing
    counted_all v count h w = w.exact ∙ ap length (kept_all Scores v h)

    -- its letters, message after message
    abbrev pub Front : ℕ → List ℕ
    Front v = each (λ z. z) (Kept Scores v)

    -- message v adds its letters, where it passes
    front_more : (v : ℕ) → 0 < m.p → v < how_many m → Front (v + 1) ≡ Front v ++ added m s t v
    front_more v pos h = ap (each (λ z. z)) (kept_more Scores v pos h) ∙ each_append (Kept Scores v) _ ∙ ap (λ z. Front v ++ z) (one (passes m s t v) (message m v))
      where
        one : (b : Bool) (x : List ℕ) → each (λ z. z) (cond b (x ∷ []) []) ≡ cond b x []
        one true x = append-nil x
        one false x = refl

    -- they are never more than the whole list's
    front_short : (v : ℕ) → length (Front v) ≤ length (each (λ z. z) (listing m s t))
    unfolding listing
    front_short v =
        let ms = messages m.p m.k in
        let e = ap (λ z. length (each (λ z. z) (filter Scores z))) (sym (take-append-drop v ms))
        ∙ ap (λ z. length (each (λ z. z) z)) (filter-append Scores (take v ms) (drop v ms))
        ∙ ap length (each_append (Kept Scores v) (filter Scores (drop v ms))) ∙ length-append (Front v) _ in
        omega arith

    -- what the writing loop keeps: these letters at the front of the buffer, and the place after them
    pub record Put (start : List ℕ) (v at : ℕ) (buf : List ℕ) : Type 0 where
      pub place : at ≡ length (Front v)
      pub buffer : buf ≡ written 0 (Front v) start

    module _ (start : List ℕ) where
      pub put_fits : (v at : ℕ) (buf : List ℕ) → 0 < m.p → v < how_many m → Put start v at buf → m.k * length (listing m s t) ≤ length start → length buf ≡ length start
          → at + length (added m s t v) ≤ length buf
      put_fits v at buf pos h w room same =
          let e = ap length (front_more v pos h) ∙ length-append (Front v) (added m s t v) in
          let f = front_short (v + 1) in
          let l = list_length m s t in
          let p = w.place in
          omega arith

      pub put_more : (v at next : ℕ) (buf now : List ℕ) → 0 < m.p → v < how_many m → Put start v at buf → next ≡ at + length (added m s t v) → now ≡ written at (added m s t v) buf
          → Put start (v + 1) next now
      put_more v at next buf now pos h w ep eb =
          let l = length-append (Front v) (added m s t v) in
          let on = sym (front_more v pos h) in
          record {
            place = ep ∙ ap (λ z. z + length (added m s t v)) w.place ∙ sym l ∙ ap length on;
            buffer = eb
                ∙ ap₂ (λ a b. written a (added m s t v) b) (w.place ∙ (let z : length (Front v) ≡ 0 + length (Front v) = omega arith in z)) w.buffer
                ∙ paste-paste start 0 (Front v) (added m s t v) (length (Front v)) (length (added m s t v)) refl refl (omega arith)
                ∙ ap (paste start 0 (Front v ++ added m s t v)) (sym l) ∙ ap (λ z. written 0 z start) on;
          }

      pub put_all : (v at : ℕ) (buf : List ℕ) → how_many m ≤ v → Put start v at buf → start ≡ replicate (length start) 0 → buf ≡ padded (length start) (each (λ z. z) (listing m s t))
      unfolding listing
      put_all v at buf h w e =
          w.buffer ∙ ap (λ z. written 0 (each (λ z. z) z) start) (kept_all Scores v h)
          ∙ ap (written 0 (each (λ z. z) (listing m s t))) e ∙ front_zeros (length start) (each (λ z. z) (listing m s t))

  -- the fewest nonzero letters in the words of the first v messages, the zero message left out
  abbrev pub Lowest : ℕ → ℕ
  Lowest v = fewest (λ x. nonzeros (m.word x)) m.n (Kept (λ x. not (blank x)) v)

  pub lowest_more : (v best r : ℕ) → 0 < m.p → v < how_many m → best ≡ Lowest v → r ≡ lower m best v → r ≡ Lowest (v + 1)
  lowest_more v best r pos h e er =
      er ∙ by (blank (message m v)) (message m v) ∙ sym (ap (fewest (λ x. nonzeros (m.word x)) m.n) (kept_more (λ x. not (blank x)) v pos h))
    where
      by : (b : Bool) (x : List ℕ) → cond b best (min best (nonzeros (m.word x))) ≡ fewest (λ x. nonzeros (m.word x)) m.n (Kept (λ x. not (blank x)) v ++ cond (not b) (x ∷ []) [])
      by true x = e ∙ ap (fewest (λ x. nonzeros (m.word x)) m.n) (sym (append-nil (Kept (λ x. not (blank x)) v)))
      by false x = ap (λ z. min z (nonzeros (m.word x))) e ∙ sym (fewest_push (λ x. nonzeros (m.word x)) m.n (Kept (λ x. not (blank x)) v) x)

  pub lowest_all : (v : ℕ) → how_many m ≤ v → Lowest v ≡ fewest (λ x. nonzeros (m.word x)) m.n (filter (λ x. not (blank x)) (messages m.p m.k))
  lowest_all v h = ap (fewest (λ x. nonzeros (m.word x)) m.n) (kept_all (λ x. not (blank x)) v h)
