-- The laws of a layout, over its list of widths: where fields lie in a part of the bytes, and that the fields determine the bytes.
use Rattle.std.proofs.Common.{◌≡◌, ℕ, zero, suc, ◌+◌, ◌-◌, ◌*◌, ◌/◌, ◌%◌, ◌^◌, ◌<◌, ◌≤◌, List, [], ◌∷◌, ◌++◌, length, take, drop, sym, refl, ap, ◌∙◌, ap₂, pow-suc, arith}
use borrow.Rule.Slice.PartMut.{put_mid, post_of}
use Rattle.std.specs.List.{AllZip}
use Rattle.std.proofs.lemmas.Nat.{div-mul-add, mod-mul-add}
use Rattle.std.proofs.lemmas.List.{drop_at, get_or_append_left, get_or-drop, get_or-take, length-take-le}
use Rattle.std.proofs.lemmas.List.Elements.{All-head, All-tail}
use Rattle.std.proofs.lemmas.Slice.{drop-put_mid}
use Rattle.bits.specs.Bits.{bit, spelled}
use Rattle.bits.specs.Layouts.{total, fields_at, Bytes}
use Rattle.bits.proofs.Fields.{spelled_below_power, spelled_in_byte, spelled_same}

-- A field taken apart: the bits of its front are the greater.
pub spelled_split : (bs : List ℕ) (at v w : ℕ) → spelled bs at (v + w) ≡ spelled bs at v * 2 ^ w + spelled bs (at + v) w
unfolding spelled
spelled_split bs at v zero = let none : v + 0 ≡ v = omega arith in rw none (omega arith)
spelled_split bs at v (suc w) =
    let more : v + suc w ≡ suc (v + w) = omega arith in
    let place : at + (v + w) ≡ at + v + w = omega arith in
    let front = spelled bs at v in
    let double : front * 2 ^ suc w ≡ front * (2 ^ w * 2) = ap (λ (x : ℕ). front * x) (pow-suc 2 w) in
    rw (more, place) (omega (arith, spelled_split bs at v w))

-- ---- Where a field lies in a part of the bytes.

bit_part : (bs : List ℕ) (k i p : ℕ) → p ≡ 8 * k + i → bit (drop k bs) i ≡ bit bs p
unfolding bit
bit_part bs k i p e =
    let byte : p / 8 ≡ k + i / 8 = omega arith in
    let place : p % 8 ≡ i % 8 = omega arith in
    rw (byte, place, get_or-drop k bs (i / 8) 0) refl

-- behind the first k bytes
pub spelled_part : (bs : List ℕ) (k at w : ℕ) → spelled (drop k bs) at w ≡ spelled bs (8 * k + at) w
spelled_part bs k at w = spelled_same (drop k bs) bs at (8 * k + at) w (λ j h. bit_part bs k (at + j) (8 * k + at + j) (omega arith))

-- in the first n bytes
pub spelled_front : (bs : List ℕ) (n at w : ℕ) → at + w ≤ 8 * n → spelled (take n bs) at w ≡ spelled bs at w
unfolding bit
spelled_front bs n at w h =
    spelled_same (take n bs) bs at at w (λ j l. rw (get_or-take n bs ((at + j) / 8) 0 (omega arith)) refl)

-- before what was appended
pub spelled_append : (xs ys : List ℕ) (at w : ℕ) → at + w ≤ 8 * length xs → spelled (xs ++ ys) at w ≡ spelled xs at w
unfolding bit
spelled_append xs ys at w h =
    spelled_same (xs ++ ys) xs at at w (λ j l. rw (get_or_append_left xs ys 0 ((at + j) / 8) (omega arith)) refl)

-- in the k bytes from a on, which were written anew with ys
pub spelled_in_mid : (a k : ℕ) (xs ys : List ℕ) (p at w : ℕ) → p ≡ 8 * a + at → a ≤ length xs → at + w ≤ 8 * length ys → spelled (put_mid a k xs ys) p w ≡ spelled ys at w
spelled_in_mid a k xs ys p at w e h l =
    let rest : drop a (put_mid a k xs ys) ≡ ys ++ post_of a k xs = drop_at (take a xs) (ys ++ post_of a k xs) a (length-take-le a xs h) in
    let part = spelled_part (put_mid a k xs ys) a at w in
    let front = spelled_append ys (post_of a k xs) at w l in
    cc

-- before those k bytes
pub spelled_before_mid : (a k : ℕ) (xs ys : List ℕ) (at w : ℕ) → a ≤ length xs → at + w ≤ 8 * a → spelled (put_mid a k xs ys) at w ≡ spelled xs at w
spelled_before_mid a k xs ys at w h l =
    let front = length-take-le a xs h in
    spelled_append (take a xs) (ys ++ post_of a k xs) at w (omega arith) ∙ spelled_front xs a at w l

-- behind them
pub spelled_behind_mid : (a k : ℕ) (xs ys : List ℕ) (at w : ℕ) → a ≤ length xs → length ys ≡ k → 8 * (a + k) ≤ at → spelled (put_mid a k xs ys) at w ≡ spelled xs at w
spelled_behind_mid a k xs ys at w h e l =
    let place : 8 * (a + k) + (at - 8 * (a + k)) ≡ at = omega arith in
    let rest : drop (a + k) (put_mid a k xs ys) ≡ drop (a + k) xs = drop-put_mid a k xs ys (a + k) (omega arith) h e in
    let new = spelled_part (put_mid a k xs ys) (a + k) (at - 8 * (a + k)) w in
    let old = spelled_part xs (a + k) (at - 8 * (a + k)) w in
    cc

-- a whole layout, before what was appended
pub fields_at_front : (xs ys : List ℕ) (at : ℕ) (ws : List ℕ) → at + total ws ≤ 8 * length xs → fields_at (xs ++ ys) at ws ≡ fields_at xs at ws
fields_at_front xs ys at [] h = refl
fields_at_front xs ys at (w ∷ ws) h =
    ap₂ (λ (v : ℕ) (vs : List ℕ). v ∷ vs) (spelled_append xs ys at w (omega arith)) (fields_at_front xs ys (at + w) ws (omega arith))

-- and in the bytes that were written anew
pub fields_at_in_mid : (a k : ℕ) (xs ys : List ℕ) (p at : ℕ) (ws : List ℕ) → p ≡ 8 * a + at → a ≤ length xs → at + total ws ≤ 8 * length ys → fields_at (put_mid a k xs ys) p ws ≡ fields_at ys at ws
fields_at_in_mid a k xs ys p at [] e h l = refl
fields_at_in_mid a k xs ys p at (w ∷ ws) e h l =
    ap₂ (λ (v : ℕ) (vs : List ℕ). v ∷ vs) (spelled_in_mid a k xs ys p at w e h (omega arith)) (fields_at_in_mid a k xs ys (p + w) (at + w) ws (omega arith) h (omega arith))

-- ---- What the fields say of the bytes.

-- Each field is as small as its width says.
pub fields_below : (bs : List ℕ) (at : ℕ) (ws : List ℕ) → AllZip (λ v w. v < 2 ^ w) (fields_at bs at ws) ws
fields_below bs at [] = tt
fields_below bs at (w ∷ ws) = (spelled_below_power bs at w, fields_below bs (at + w) ws)

-- Equal fields spell one number together.
pub same_spelled_from_fields : (cs bs : List ℕ) (at : ℕ) (ws : List ℕ) → fields_at cs at ws ≡ fields_at bs at ws → spelled cs at (total ws) ≡ spelled bs at (total ws)
unfolding spelled
same_spelled_from_fields cs bs at [] h = refl
same_spelled_from_fields cs bs at (w ∷ ws) h =
    let first : spelled cs at w ≡ spelled bs at w = cc in
    let rest : fields_at cs (at + w) ws ≡ fields_at bs (at + w) ws = cc in
    let after = same_spelled_from_fields cs bs (at + w) ws rest in
    let split = spelled_split cs at w (total ws) in
    let splits = spelled_split bs at w (total ws) in
    cc

-- The first byte, and the number that the others spell.
bytes_split : (x : ℕ) (xs : List ℕ) (n : ℕ) → x < 256 → spelled (x ∷ xs) 0 (8 + n) ≡ x * 2 ^ n + spelled xs 0 n
bytes_split x xs n h =
    let first : spelled (x ∷ xs) 0 8 ≡ x = spelled_in_byte (x ∷ xs) 0 0 8 (omega arith) ∙ omega arith in
    let rest : spelled (x ∷ xs) 8 n ≡ spelled xs 0 n = sym (spelled_part (x ∷ xs) 1 0 n) in
    spelled_split (x ∷ xs) 0 8 n ∙ cc

-- Bytes are the digits of the number that they spell.
pub same_bytes : (cs bs : List ℕ) → Bytes cs → Bytes bs → length cs ≡ length bs → spelled cs 0 (8 * length cs) ≡ spelled bs 0 (8 * length cs) → cs ≡ bs
same_bytes [] [] p q e h = refl
same_bytes [] (y ∷ ys) p q e h = absurd (omega arith)
same_bytes (x ∷ xs) [] p q e h = absurd (omega arith)
same_bytes (x ∷ xs) (y ∷ ys) p q e h =
    let px = All-head (λ b. b < 256) x xs p in
    let qy = All-head (λ b. b < 256) y ys q in
    let pxs = All-tail (λ b. b < 256) x xs p in
    let qys = All-tail (λ b. b < 256) y ys q in
    let n = 8 * length xs in
    let more : 8 * suc (length xs) ≡ 8 + n = omega arith in
    let whole : spelled (x ∷ xs) 0 (8 + n) ≡ spelled (y ∷ ys) 0 (8 + n) = rw (← more) h in
    let both : x * 2 ^ n + spelled xs 0 n ≡ y * 2 ^ n + spelled ys 0 n = sym (bytes_split x xs n px) ∙ whole ∙ bytes_split y ys n qy in
    let left = spelled_below_power xs 0 n in
    let right = spelled_below_power ys 0 n in
    let first : x ≡ y = sym (div-mul-add x (2 ^ n) _ left) ∙ ap (λ (z : ℕ). z / 2 ^ n) both ∙ div-mul-add y (2 ^ n) _ right in
    let rest : spelled xs 0 n ≡ spelled ys 0 n = sym (mod-mul-add x (2 ^ n) _ left) ∙ ap (λ (z : ℕ). z % 2 ^ n) both ∙ mod-mul-add y (2 ^ n) _ right in
    ap₂ (λ (v : ℕ) (vs : List ℕ). v ∷ vs) first (same_bytes xs ys pxs qys (omega arith) rest)

-- A byte string is determined by the fields of any layout that takes all its bits: an encoding is unique.
pub fields_determine : (cs bs ws : List ℕ) (n : ℕ) → Bytes cs → Bytes bs → length cs ≡ n → length bs ≡ n → total ws ≡ 8 * n
    → fields_at cs 0 ws ≡ fields_at bs 0 ws → cs ≡ bs
fields_determine cs bs ws n p q d e t h =
    let all : total ws ≡ 8 * length cs = omega arith in
    same_bytes cs bs p q (omega arith) (rw (← all) (same_spelled_from_fields cs bs 0 ws h))

-- ---- A layout in another byte string.

-- behind the first k bytes
pub fields_at_part : (bs : List ℕ) (k at p : ℕ) (ws : List ℕ) → p ≡ 8 * k + at → fields_at (drop k bs) at ws ≡ fields_at bs p ws
fields_at_part bs k at p [] e = refl
fields_at_part bs k at p (w ∷ ws) e =
    ap₂ (λ (v : ℕ) (vs : List ℕ). v ∷ vs)
    (spelled_part bs k at w ∙ ap (λ (z : ℕ). spelled bs z w) (sym e))
    (fields_at_part bs k (at + w) (p + w) ws (omega arith))

-- in the first n bytes
pub fields_at_take : (bs : List ℕ) (n at : ℕ) (ws : List ℕ) → at + total ws ≤ 8 * n → fields_at (take n bs) at ws ≡ fields_at bs at ws
fields_at_take bs n at [] h = refl
fields_at_take bs n at (w ∷ ws) h =
    ap₂ (λ (v : ℕ) (vs : List ℕ). v ∷ vs) (spelled_front bs n at w (omega arith)) (fields_at_take bs n (at + w) ws (omega arith))

-- in two byte strings with the same first n bytes
pub fields_at_same : (cs bs : List ℕ) (n at : ℕ) (ws : List ℕ) → take n cs ≡ take n bs → at + total ws ≤ 8 * n → fields_at cs at ws ≡ fields_at bs at ws
fields_at_same cs bs n at ws e h =
    sym (fields_at_take cs n at ws h) ∙ ap (λ (z : List ℕ). fields_at z at ws) e ∙ fields_at_take bs n at ws h
