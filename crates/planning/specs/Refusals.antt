-- The refusals: the number of each case, and its place.
use Rattle.std.specs.Prelude.{ℕ, List, [], ◌∷◌, codes, slice_index_or}
use Rattle.planning.specs.declared.refusal.Refusal.{Refusal}
use Rattle.planning.specs.declared.refusal.Refusal.TheVariants.{Length, Version, Kind, Count, StartOrGoal, Frame, Price, Names, Short, TableLength, Inconsistent, Range, NoState, NoAction, Inapplicable, AtGoal, NotOpen, Foreign}
use Rattle.planning.specs.declared.refusal.Place.{Place}
use Rattle.planning.specs.declared.refusal.Place.TheVariants.{At, StateAndAction}

abbrev pub number_of : Refusal → ℕ
number_of (Length given) = 1
number_of Version = 2
number_of Kind = 3
number_of (Count byte) = 4
number_of (StartOrGoal byte) = 5
number_of (Frame byte) = 6
number_of (Price byte) = 7
number_of (Names byte) = 8
number_of (Short needed) = 9
number_of (TableLength states) = 10
number_of (Inconsistent state action) = 11
number_of Range = 12
number_of (NoState state) = 13
number_of (NoAction action) = 14
number_of (Inapplicable action) = 15
number_of (AtGoal state) = 16
number_of (NotOpen turns) = 17
number_of (Foreign state) = 18

abbrev pub place_of : Refusal → Place
place_of (Length given) = At given
place_of Version = At 0
place_of Kind = At 5
place_of (Count byte) = At byte
place_of (StartOrGoal byte) = At byte
place_of (Frame byte) = At byte
place_of (Price byte) = At byte
place_of (Names byte) = At byte
place_of (Short needed) = At needed
place_of (TableLength states) = At states
place_of (Inconsistent state action) = StateAndAction state action
place_of Range = At 0
place_of (NoState state) = At state
place_of (NoAction action) = At action
place_of (Inapplicable action) = At action
place_of (AtGoal state) = At state
place_of (NotOpen turns) = At turns
place_of (Foreign state) = At state

-- a place as one number: of a state and an action the state
abbrev pub number_of_place : Place → ℕ
number_of_place (At n) = n
number_of_place (StateAndAction state action) = state

-- what is wrong, in words that help whoever made the input, by the number of the refusal; no word for other numbers
abbrev pub sentence_of : ℕ → List ℕ
sentence_of number =
    slice_index_or ([]
    ∷ codes "a sheet has 9 to 65536 bytes, as many as bytes 1 to 4 say, and holds its whole head"
    ∷ codes "the version, byte 0, has to be 1"
    ∷ codes "the kind, byte 5, is unknown or not the one that is read here"
    ∷ codes "this count is out of range, or there would be more than 65536 states"
    ∷ codes "the start or the goal names a fact or value that the sheet does not have"
    ∷ codes "the lengths of this record do not fit, its name has not 1 to 32 bytes, or bytes follow the last record"
    ∷ codes "the price of the action in this record is above 1000000"
    ∷ codes "this record names a fact, variable or value that the sheet does not have, or its variables do not rise"
    ∷ codes "a table, list or buffer is shorter than this"
    ∷ codes "the table of estimates has to have one entry for each state"
    ∷ codes "the estimate falls by more than the action costs, or is not zero at a goal"
    ∷ codes "the limit or the budget is out of range"
    ∷ codes "there is no such state"
    ∷ codes "there is no such action"
    ∷ codes "the action is not applicable in the state"
    ∷ codes "the state is a goal"
    ∷ codes "the marking is not open"
    ∷ codes "the open list holds what this marking did not put there"
    ∷ []) number []
