-- Sheets of variables with several values: a finite-domain task, byte by byte.
--
-- Byte 6 is the number of variables. From byte 9 on stand the number of values of each variable, then
-- the value of each at the start, then the value of each at the goal, 255 for any. What an action needs
-- and does is two lists, preconditions and effects: a count, and that many pairs of a variable and a value.
use Rattle.std.specs.Prelude.{◌≡◌, ℕ, zero, suc, ◌+◌, ◌*◌, ◌<◌, ◌≤◌, Bool, true, ◌&&◌, ◌||◌, ltb, ◌⊎◌, List, [], ◌∷◌, ◌++◌, length, take, drop, ◌==◌, nat_le, nat_lt, slice_index}
use Rattle.std.specs.List.{flat_map, AllByRecursion, AllZip}
use Rattle.planning.specs.declared.refusal.Refusal.TheVariants.{Count, StartOrGoal}
use Rattle.planning.specs.Checks.{Check}
use Rattle.sheet_layout.specs.Frame.{Action, ValidAction, KindOf, sheet_bytes, opening_checks, actions_check, records_checks}
use Rattle.sheet_layout.specs.Numbers.{byte_at, num16}

-- a variable and one of its values
pub record Assignment : Type 0 where
  pub variable : ℕ
  pub value : ℕ

-- the values that an action needs, and those that it sets
pub record Assignments : Type 0 where
  pub preconditions : List Assignment
  pub effects : List Assignment

-- what such a sheet says: of each variable its number of values, its value at the start, its value at the goal
pub record FiniteDomainContent : Type 0 where
  pub counts : List ℕ
  pub start : List ℕ
  pub goal : List ℕ
  pub actions : List (Action Assignments)

-- the product of the numbers of values: the number of states
abbrev pub product : List ℕ → ℕ
product [] = 1
product (n ∷ ns) = n * product ns

-- the variables of a list rise strictly, the first is at least `least`; each is there, and so is its value
abbrev pub ValidList : List ℕ → ℕ → List Assignment → Type 0
ValidList counts least [] = Unit {0}
ValidList counts least (x ∷ xs) =
    (least ≤ x.variable) × (x.variable < length counts) × (x.value < slice_index counts x.variable) × ValidList counts (x.variable + 1) xs

pub record ValidAssignments (counts : List ℕ) (a : Assignments) : Type 0 where
  pub preconditions : ValidList counts 0 a.preconditions
  pub effects : ValidList counts 0 a.effects

-- a number of values
pub record ValidCount (n : ℕ) : Type 0 where
  pub two : 2 ≤ n
  pub sixteen : n ≤ 16

pub record ValidFiniteDomain (c : FiniteDomainContent) : Type 0 where
  pub some_variable : 1 ≤ length c.counts
  pub few_variables : length c.counts ≤ 16
  pub counts : AllByRecursion ValidCount c.counts
  pub few_states : product c.counts ≤ 65536
  pub start : AllZip (λ v n. v < n) c.start c.counts
  pub goal : AllZip (λ v n. (v < n) ⊎ (v ≡ 255)) c.goal c.counts
  pub some_action : 1 ≤ length c.actions
  pub few_actions : length c.actions ≤ 512
  pub each : AllByRecursion (ValidAction (ValidAssignments c.counts)) c.actions

abbrev pub assignment_bytes : Assignment → List ℕ
assignment_bytes x = x.variable ∷ x.value ∷ []

-- a list: its count, then its pairs
abbrev pub list_bytes : List Assignment → List ℕ
list_bytes xs = length xs ∷ flat_map assignment_bytes xs

abbrev pub assignments_bytes : Assignments → List ℕ
assignments_bytes a = list_bytes a.preconditions ++ list_bytes a.effects

-- the sheet of a content
abbrev pub finite_domain_bytes : FiniteDomainContent → List ℕ
finite_domain_bytes c = sheet_bytes assignments_bytes 2 (length c.counts) (c.counts ++ (c.start ++ c.goal)) c.actions

-- where the list that begins at a place ends
abbrev pub end_of_list : List ℕ → ℕ → ℕ
end_of_list bs p = p + 1 + 2 * byte_at bs p

-- the list that begins at p is no longer than the number of variables, and lies before an end
abbrev pub list_fits : List ℕ → ℕ → ℕ → Bool
list_fits bs p end = nat_lt p end && (nat_le (byte_at bs p) (byte_at bs 6) && nat_le (end_of_list bs p) end)

-- the pair at p names a variable that is there and at least `least`, and a value that is there
abbrev pub present_pair : List ℕ → ℕ → ℕ → Bool
present_pair bs p least =
    nat_le least (byte_at bs p) && (nat_lt (byte_at bs p) (byte_at bs 6) && nat_lt (byte_at bs (p + 1)) (byte_at bs (9 + byte_at bs p)))

-- n pairs from p on do, and their variables rise strictly
abbrev pub present_pairs : List ℕ → ℕ → ℕ → ℕ → Bool
present_pairs bs zero p least = true
present_pairs bs (suc n) p least = present_pair bs p least && present_pairs bs n (p + 2) (byte_at bs p + 1)

abbrev pub present_list : List ℕ → ℕ → Bool
present_list bs p = present_pairs bs (byte_at bs p) (p + 1) 0

-- n pairs that stand from p on
abbrev pub read_pairs : List ℕ → ℕ → ℕ → List Assignment
read_pairs bs zero p = []
read_pairs bs (suc n) p = record { variable = byte_at bs p; value = byte_at bs (p + 1) } ∷ read_pairs bs n (p + 2)

-- the list that begins at p
abbrev pub read_list : List ℕ → ℕ → List Assignment
read_list bs p = read_pairs bs (byte_at bs p) (p + 1)

-- the two lists of which the first begins at p
abbrev pub read_assignments : List ℕ → ℕ → Assignments
read_assignments bs p = record { preconditions = read_list bs p; effects = read_list bs (end_of_list bs p) }

abbrev pub finite_domain_kind : KindOf
finite_domain_kind = record {
  code = 2;
  fits = λ bs p end. list_fits bs p end && list_fits bs (end_of_list bs p) end;
  ending = λ bs p. end_of_list bs (end_of_list bs p);
  present = λ bs p. present_list bs p && present_list bs (end_of_list bs p);
}

-- the checks of the numbers of values, from byte p on
abbrev pub counts_checks : List ℕ → ℕ → List Check
counts_checks [] p = []
counts_checks (n ∷ ns) p = record { passes = nat_le 2 n && nat_le n 16; refusal = Count p } ∷ counts_checks ns (p + 1)

-- each value passes a test with its variable's number of values; values from byte p on
abbrev pub values_checks : (ℕ → ℕ → Bool) → List ℕ → List ℕ → ℕ → List Check
values_checks passing [] vs p = []
values_checks passing (n ∷ ns) [] p = []
values_checks passing (n ∷ ns) (v ∷ vs) p = record { passes = passing v n; refusal = StartOrGoal p } ∷ values_checks passing ns vs (p + 1)

-- one of the values of a variable, or 255 for any
abbrev pub value_or_any : ℕ → ℕ → Bool
value_or_any v n = nat_lt v n || v == 255

-- the checks of the counts, the start and the goal
abbrev pub finite_domain_head : ℕ → ℕ → List ℕ → List ℕ → List ℕ → List Check
finite_domain_head variables actions counts start goal =
    record { passes = nat_le 1 variables && nat_le variables 16; refusal = Count 6 }
    ∷ actions_check actions
    ∷ (counts_checks counts 9
    ++ (record { passes = nat_le (product counts) 65536; refusal = Count 6 }
    ∷ (values_checks ltb counts start (9 + variables) ++ values_checks value_or_any counts goal (9 + 2 * variables))))

-- the numbers that stand in n bytes from a place on
abbrev pub part : List ℕ → ℕ → ℕ → List ℕ
part bs p n = take n (drop p bs)

abbrev pub finite_domain_head_checks : List ℕ → List Check
finite_domain_head_checks bs =
    let d = byte_at bs 6 in
    finite_domain_head d (num16 bs 7) (part bs 9 d) (part bs (9 + d) d) (part bs (9 + 2 * d) d)

-- the checks of such a sheet, in their order
abbrev pub finite_domain_checks : List ℕ → List Check
finite_domain_checks bs =
    opening_checks finite_domain_kind bs ++ (finite_domain_head_checks bs ++ records_checks finite_domain_kind bs (num16 bs 7) (9 + 3 * byte_at bs 6))
