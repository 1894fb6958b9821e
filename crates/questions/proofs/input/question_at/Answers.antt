use Rattle.std.proofs.Common.{◌≡◌, ℕ, ◌+◌, ◌<◌, List, take, drop, refl, ap, ◌∙◌, arith}
use Rattle.std.proofs.lemmas.List.{get_or-drop, get_or-take, take_rest}
use Rattle.sheet_layout.specs.Numbers.{byte_at, num16, num32}
use Rattle.questions.proofs.input.question_at.Goals as goal

-- a byte of a question, at its place in the input
part : (bs ys : List ℕ) (p i q : ℕ) → ys ≡ take 6 (drop p bs) → i < 6 → p + i ≡ q → byte_at ys i ≡ byte_at bs q
part bs ys p i q is h at = ap (λ l. byte_at l i) is ∙ get_or-take 6 (drop p bs) i 0 h ∙ get_or-drop p bs i 0 ∙ ap (byte_at bs) at

pub returns : goal.returns
returns c =
    let bs = c.args.input.now in
    let p = c.args.place in
    let is : c.in_ok-bytes.bytes.now ≡ take 6 (drop p bs) = c.in_ok-bytes.ensures.cases.same ∙ ap (take 6) (c.in_ok-get.ensures.lookup.0.2 ∙ take_rest bs p) in
    let at = part bs c.in_ok-bytes.bytes.now p in
    let state : c.from_be_bytes.result ≡ num32 bs p =
    omega (arith, c.from_be_bytes.ensures, at 0 p is (omega arith) (omega arith), at 1 (p + 1) is (omega arith) (omega arith), at 2 (p + 2) is (omega arith) (omega arith), at 3 (p + 3) is (omega arith) (omega arith)) in
    let action : c.from_be_bytes-2.result ≡ num16 bs (p + 4) =
    omega (arith, c.from_be_bytes-2.ensures, at 4 (p + 4) is (omega arith) (omega arith), at 5 (p + 4 + 1) is (omega arith) (omega arith)) in
    record { place = refl; bytes = is; state = state; action = action }
