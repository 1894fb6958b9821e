-- What reading a sheet of variables answers, and what it leaves in the caller's tables.
use Rattle.std.specs.Prelude.{◌≡◌, ℕ, ◌+◌, ◌-◌, ◌*◌, List, [], ◌∷◌, ◌++◌, length, replicate, Result, slice_set}
use Rattle.planning.specs.declared.refusal.Refusal.{Refusal}
use Rattle.sheet_layout.specs.FiniteDomain.{Assignment, Assignments, FiniteDomainContent, ValidFiniteDomain, product, finite_domain_bytes, finite_domain_kind, finite_domain_head_checks, part, read_assignments}
use Rattle.sheet_layout.specs.Frame.{Action}
use Rattle.sheet_layout.specs.Numbers.{byte_at, num16}
use Rattle.sheets.specs.declared.head.FiniteDomainHead.{FiniteDomainHead}
use Rattle.sheets.specs.declared.finite_domain.FiniteDomainAction.{FiniteDomainAction}
use Rattle.sheets.specs.Kinds.{Reading, Checked, OneContent, ReadInto}

-- the sheet is the layout of a valid content
pub record FiniteDomainSheet (bs : List ℕ) (c : FiniteDomainContent) : Type 0 where
  pub valid : ValidFiniteDomain c
  pub laid : finite_domain_bytes c ≡ bs

-- sixteen numbers, with 0 for those that are not there
abbrev pub padded : List ℕ → List ℕ
padded xs = xs ++ replicate (16 - length xs) 0

-- a head that says what a content says
pub record FiniteDomainHeadOf (h : FiniteDomainHead) (c : FiniteDomainContent) : Type 0 where
  pub variables : h.variables ≡ length c.counts
  pub actions : h.actions ≡ length c.actions
  pub states : h.states ≡ product c.counts
  pub counts : h.counts ≡ padded c.counts
  pub start : h.start ≡ padded c.start
  pub goal : h.goal ≡ padded c.goal

-- a head that holds what stands at the places of a sheet's head
pub record FiniteDomainHeadAt (bs : List ℕ) (h : FiniteDomainHead) : Type 0 where
  pub variables : h.variables ≡ byte_at bs 6
  pub actions : h.actions ≡ num16 bs 7
  pub counts : h.counts ≡ padded (part bs 9 (byte_at bs 6))
  pub start : h.start ≡ padded (part bs (9 + byte_at bs 6) (byte_at bs 6))
  pub goal : h.goal ≡ padded (part bs (9 + 2 * byte_at bs 6) (byte_at bs 6))

-- values by variable, changed by a list of variables and values
abbrev pub assigned : List ℕ → List Assignment → List ℕ
assigned vs [] = vs
assigned vs (x ∷ xs) = assigned (slice_set vs x.variable x.value) xs

-- the values that a list names, by variable, 255 for the variables that it does not name
abbrev pub values_named : List Assignment → List ℕ
values_named = assigned (replicate 16 255)

abbrev pub does : Assignments → FiniteDomainAction
does a = record { preconditions = values_named a.preconditions; effects = values_named a.effects }

-- what an action of a content is in the tables
abbrev pub entered : Action Assignments → FiniteDomainAction
entered x = does x.does

-- what a sheet of variables has of its own
abbrev pub finite_domain_reading : Reading FiniteDomainHead FiniteDomainAction
finite_domain_reading = record {
  Content = FiniteDomainContent;
  Does = Assignments;
  kind = finite_domain_kind;
  head_checks = finite_domain_head_checks;
  first = λ bs. 9 + 3 * byte_at bs 6;
  HeadAt = FiniteDomainHeadAt;
  count = λ h. h.actions;
  begins = λ h. 9 + 3 * h.variables;
  LaidOut = FiniteDomainSheet;
  HeadOf = FiniteDomainHeadOf;
  actions = λ c. c.actions;
  does_at = read_assignments;
  enters = does;
  blank = record { preconditions = replicate 16 255; effects = replicate 16 255 };
}

abbrev pub FiniteDomainChecked : List ℕ → Result FiniteDomainHead Refusal → Type 0
FiniteDomainChecked = Checked finite_domain_reading

abbrev pub FiniteDomainUnique : List ℕ → Type 0
FiniteDomainUnique = OneContent finite_domain_reading

abbrev pub FiniteDomainReadInto : List ℕ → List FiniteDomainAction → List ℕ → List FiniteDomainAction → List ℕ → Result FiniteDomainHead Refusal → Type 0
FiniteDomainReadInto = ReadInto finite_domain_reading
