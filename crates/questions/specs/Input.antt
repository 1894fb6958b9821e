-- The input of the marking program: a sheet, a 16-bit count, and that many questions of six bytes,
-- a 32-bit state and a 16-bit action.
use Rattle.std.specs.Prelude.{◌≡◌, ℕ, ◌+◌, ◌*◌, ◌<◌, ◌≤◌, ◌&&◌, List, [], ◌∷◌, length, take, drop, Some, None, Ok, Err, Option, Result, ◌==◌, nat_le}
use Rattle.planning.specs.Checks.{Check, first_failing}
use Rattle.planning.specs.declared.refusal.Refusal.{Refusal}
use Rattle.planning.specs.declared.refusal.Refusal.TheVariants.{Length}
use Rattle.sheet_layout.specs.Numbers.{num16, num32}
use Rattle.questions.specs.declared.input.Asked.{Asked}
use Rattle.questions.specs.declared.input.Question.{Question}

-- the sheet's stated length says where the questions begin; all is there, and nothing more
abbrev pub well_formed : List ℕ → Check
well_formed bs = record {
  passes = nat_le 5 (length bs) && (nat_le (num32 bs 1 + 2) (length bs) && length bs == num32 bs 1 + 2 + 6 * num16 bs (num32 bs 1));
  refusal = Length (length bs);
}

-- the parts of an input
pub record AskedOf (bs : List ℕ) (a : Asked) : Type 0 where
  pub input : a.input.now ≡ bs
  pub sheet : a.sheet.now ≡ take (num32 bs 1) bs
  pub count : a.count ≡ num16 bs (num32 bs 1)
  pub place : a.place ≡ num32 bs 1 + 2
  pub whole : length bs ≡ a.place + 6 * a.count

abbrev pub Split : List ℕ → Result Asked Refusal → Type 0
Split bs (Ok a) = (first_failing (well_formed bs ∷ []) ≡ None) × AskedOf bs a
Split bs (Err e) = first_failing (well_formed bs ∷ []) ≡ Some e

-- the question that stands at a place of an input: six bytes, a state and an action
pub record QuestionAt (bs : List ℕ) (p : ℕ) (q : Question) : Type 0 where
  pub place : q.place ≡ p
  pub bytes : q.bytes.now ≡ take 6 (drop p bs)
  pub state : q.state ≡ num32 bs p
  pub action : q.action ≡ num16 bs (p + 4)

-- the question of a number below the count, where the input has it
abbrev pub QuestionOf : Asked → ℕ → Option Question → Type 0
QuestionOf a i None = i < a.count → a.place + 6 * i + 6 ≤ length a.input.now → ⊥
QuestionOf a i (Some q) = (i < a.count) × QuestionAt a.input.now (a.place + 6 * i) q
