-- a sign in front of digits
use Rattle.std.proofs.Common.{ℕ, ◌≡◌, ◌+◌, ◌-◌, ◌≤◌, List, [], ◌∷◌, ◌++◌, length, drop, take, replicate, arith, ◌∙◌, ap, sym}
use Rattle.std.proofs.lemmas.List.{length-replicate, take-replicate, take-append-drop, take_all, drop-append-le, drop-replicate}

-- digits at the end of room that their sign filled, and the place before them
pub sign_and_digits : (room digits : List ℕ) (sign start : ℕ) → start + length digits ≡ 21 → length digits ≤ 20 → drop start room ≡ digits → take start room ≡ take start (replicate 21 sign) → take (21 - (start - 1)) (drop (start - 1) room) ≡ sign ∷ digits
sign_and_digits room digits sign start fills short written before =
    let front : take start room ≡ replicate start sign = before ∙ take-replicate start 21 sign (omega arith) in
    let whole : replicate start sign ++ digits ≡ room = ap (λ xs. xs ++ digits) (sym front) ∙ ap (λ xs. take start room ++ xs) (sym written) ∙ take-append-drop start room in
    let one : start - (start - 1) ≡ 1 = omega arith in
    let last : drop (start - 1) (replicate start sign) ≡ sign ∷ [] = drop-replicate (start - 1) start sign ∙ ap (λ n. replicate n sign) one in
    let within : start - 1 ≤ length (replicate start sign) = omega (arith, length-replicate start sign) in
    let behind : drop (start - 1) room ≡ sign ∷ digits =
    ap (drop (start - 1)) (sym whole) ∙ drop-append-le (start - 1) (replicate start sign) digits within ∙ ap (λ xs. xs ++ digits) last in
    let all : length (sign ∷ digits) ≤ 21 - (start - 1) = omega arith in
    ap (take (21 - (start - 1))) behind ∙ take_all (21 - (start - 1)) (sign ∷ digits) all
