use Rattle.std.proofs.Common.{ℕ, ◌<◌, List, [], ◌∷◌, arith, slice_index_or}
use Rattle.std.specs.List.{AllByRecursion}
use Rattle.std.specs.Str.{IsUtf8}
use Rattle.std.proofs.lemmas.List.Elements.{All-from_recursion}
use Rattle.std.proofs.lemmas.Str.{IsUtf8-from_ascii}
use Rattle.std.proofs.lemmas.Str.Ascii.{IsAscii-from_all}
use Rattle.saved_text.proofs.date_display.printed.Goals as goal

first : (ds : List ℕ) → AllByRecursion (λ b. b < 128) ds → slice_index_or ds 0 0 < 128
first [] h = omega arith
first (b ∷ bs) h = h.0

second : (ds : List ℕ) → AllByRecursion (λ b. b < 128) ds → slice_index_or ds 1 0 < 128
second [] h = omega arith
second (a ∷ []) h = omega arith
second (a ∷ b ∷ bs) h = h.1.0

are_utf8 : (bs : List ℕ) → AllByRecursion (λ b. b < 128) bs → IsUtf8 bs
are_utf8 bs h = IsUtf8-from_ascii bs (IsAscii-from_all bs (All-from_recursion (λ b. b < 128) bs h))

two : (ds rest : List ℕ) → AllByRecursion (λ b. b < 128) ds → AllByRecursion (λ b. b < 128) rest
    → AllByRecursion (λ b. b < 128) (slice_index_or ds 0 0 ∷ slice_index_or ds 1 0 ∷ rest)
two ds rest h more = (first ds h, (second ds h, more))

sign : (b : ℕ) (rest : List ℕ) → b < 128 → AllByRecursion (λ x. x < 128) rest
    → AllByRecursion (λ x. x < 128) (b ∷ rest)
sign b rest h more = (h, more)

pub returns-clause-utf8 : goal.returns-clause-utf8
returns-clause-utf8 c =
    let s7 : List ℕ = 90 ∷ [] in
    let are_s7 = sign 90 [] (omega arith) tt in
    let t7 : List ℕ = slice_index_or c.digits-7.result 0 0 ∷ slice_index_or c.digits-7.result 1 0 ∷ s7 in
    let are_t7 = two c.digits-7.result s7 c.digits-7.ensures.ascii are_s7 in
    let s6 : List ℕ = 58 ∷ t7 in
    let are_s6 = sign 58 t7 (omega arith) are_t7 in
    let t6 : List ℕ = slice_index_or c.digits-6.result 0 0 ∷ slice_index_or c.digits-6.result 1 0 ∷ s6 in
    let are_t6 = two c.digits-6.result s6 c.digits-6.ensures.ascii are_s6 in
    let s5 : List ℕ = 58 ∷ t6 in
    let are_s5 = sign 58 t6 (omega arith) are_t6 in
    let t5 : List ℕ = slice_index_or c.digits-5.result 0 0 ∷ slice_index_or c.digits-5.result 1 0 ∷ s5 in
    let are_t5 = two c.digits-5.result s5 c.digits-5.ensures.ascii are_s5 in
    let s4 : List ℕ = 84 ∷ t5 in
    let are_s4 = sign 84 t5 (omega arith) are_t5 in
    let t4 : List ℕ = slice_index_or c.digits-4.result 0 0 ∷ slice_index_or c.digits-4.result 1 0 ∷ s4 in
    let are_t4 = two c.digits-4.result s4 c.digits-4.ensures.ascii are_s4 in
    let s3 : List ℕ = 45 ∷ t4 in
    let are_s3 = sign 45 t4 (omega arith) are_t4 in
    let t3 : List ℕ = slice_index_or c.digits-3.result 0 0 ∷ slice_index_or c.digits-3.result 1 0 ∷ s3 in
    let are_t3 = two c.digits-3.result s3 c.digits-3.ensures.ascii are_s3 in
    let s2 : List ℕ = 45 ∷ t3 in
    let are_s2 = sign 45 t3 (omega arith) are_t3 in
    let t2 : List ℕ = slice_index_or c.digits-2.result 0 0 ∷ slice_index_or c.digits-2.result 1 0 ∷ s2 in
    let are_t2 = two c.digits-2.result s2 c.digits-2.ensures.ascii are_s2 in
    let t1 : List ℕ = slice_index_or c.digits.result 0 0 ∷ slice_index_or c.digits.result 1 0 ∷ t2 in
    are_utf8 t1 (two c.digits.result t2 c.digits.ensures.ascii are_t2)
