use Rattle.std.proofs.Common.{◌≡◌, ℕ, [], ◌∷◌, Some, None, Option, refl, arith}
use Rattle.std.specs.List.{slice_get}
use Rattle.planning.specs.declared.task.Transition.{Transition}
use Rattle.planning.specs.Estimates.{Estimates, Admissible}
use Rattle.planning.specs.Paths.{stay, step, Solution}
use Rattle.costs.specs.declared.coins.Coins.{Coins}
use Rattle.costs.specs.declared.coins_then_actions.CoinsThenActions.{CoinsThenActions}
use Rattle.costs.specs.Coins.{coins_algebra}
use Rattle.costs.specs.CoinsThenActions.{pair_algebra}
use Rattle.costs.specs.Laws.{coins_laws, pair_laws}
use Rattle.small_tasks.specs.Tasks.{K, rows_k, L, rows_l, J, rows_j}
use Rattle.small_tasks.proofs.Bounds.{listed, bounds, attained, beaten}
use Rattle.small_tasks.proofs.verdicts_stand.Goals as goal

abbrev coins : ℕ → Coins
coins n = record { amount = n }

abbrev go : ℕ → Option Coins
go n = Some (coins n)

abbrev pair : ℕ → ℕ → CoinsThenActions
pair n m = record { coins = n; actions = m }

abbrev to : ℕ → ℕ → Transition
to state coins = record { state = state; coins = coins }

-- costs to go, state by state
abbrev h_l : Estimates Coins
h_l p = listed (slice_get (go 2 ∷ go 1 ∷ go 1 ∷ go 1 ∷ go 0 ∷ go 0 ∷ go 0 ∷ go 0 ∷ []) p)

abbrev h_j : Estimates Coins
h_j p = listed (slice_get (go 3 ∷ go 2 ∷ go 2 ∷ go 1 ∷ go 0 ∷ go 0 ∷ go 0 ∷ go 0 ∷ []) p)

abbrev h_k : Estimates Coins
h_k p = listed (slice_get (None ∷ go 0 ∷ []) p)

abbrev h_p : Estimates CoinsThenActions
h_p p = listed (slice_get (Some (pair 2 2) ∷ Some (pair 1 1) ∷ Some (pair 1 1) ∷ Some (pair 1 1) ∷ Some (pair 0 0) ∷ Some (pair 0 0) ∷ Some (pair 0 0) ∷ Some (pair 0 0) ∷ []) p)

bound_l : Admissible L coins_algebra h_l
bound_l = bounds coins_algebra coins_laws 3 4 rows_l h_l refl

bound_j : Admissible J coins_algebra h_j
bound_j = bounds coins_algebra coins_laws 3 4 rows_j h_j refl

bound_k : Admissible K coins_algebra h_k
bound_k = bounds coins_algebra coins_laws 1 1 rows_k h_k refl

bound_p : Admissible L pair_algebra h_p
bound_p = bounds pair_algebra pair_laws 3 4 rows_l h_p refl

-- the fact of action 0 or 1, then the goal
l_0_0 : Solution L coins_algebra 0 (0 ∷ 2 ∷ []) (coins 2)
l_0_0 = record { end = 5; path = step (to 1 1) refl (step (to 5 1) refl stay); goal = refl }

l_0_1 : Solution L coins_algebra 0 (1 ∷ 3 ∷ []) (coins 2)
l_0_1 = record { end = 6; path = step (to 2 1) refl (step (to 6 1) refl stay); goal = refl }

l_1_2 : Solution L coins_algebra 1 (2 ∷ []) (coins 1)
l_1_2 = record { end = 5; path = step (to 5 1) refl stay; goal = refl }

pairs_l_0_0 : Solution L pair_algebra 0 (0 ∷ 2 ∷ []) (pair 2 2)
pairs_l_0_0 = record { end = 5; path = step (to 1 1) refl (step (to 5 1) refl stay); goal = refl }

pub returns : goal.returns
returns c = record {
  l_0_0 = (_, _, attained bound_l 0 _ _ refl l_0_0);
  l_0_1 = (_, _, attained bound_l 0 _ _ refl l_0_1);
  l_0_5 = (_, _, attained bound_l 0 (5 ∷ 0 ∷ 2 ∷ []) (coins 2) refl (record { end = l_0_0.end; path = step (to 0 0) refl l_0_0.path; goal = l_0_0.goal }));
  l_0_6 = (_, _, attained bound_l 0 (6 ∷ 2 ∷ []) (coins 2) refl (record { end = l_1_2.end; path = step (to 1 1) refl l_1_2.path; goal = l_1_2.goal }));
  l_1_2 = (_, _, attained bound_l 1 _ _ refl l_1_2);
  j_0_0 = (_, _, attained bound_j 0 (0 ∷ 1 ∷ 2 ∷ []) (coins 3) refl (record { end = 7; path = step (to 1 1) refl (step (to 3 1) refl (step (to 7 1) refl stay)); goal = refl }));
  j_0_1 = (_, _, attained bound_j 0 (1 ∷ 0 ∷ 2 ∷ []) (coins 3) refl (record { end = 7; path = step (to 2 1) refl (step (to 3 1) refl (step (to 7 1) refl stay)); goal = refl }));
  l_0_4 = beaten coins_laws bound_l 0 4 _ _ l_0_0 (to 4 3) refl (coins 0) refl refl;
  l_1_0 = beaten coins_laws bound_l 1 0 _ _ l_1_2 (to 1 1) refl (coins 1) refl refl;
  l_1_1 = beaten coins_laws bound_l 1 1 _ _ l_1_2 (to 3 1) refl (coins 1) refl refl;
  k_0 = λ s. let m = bound_k 0 s.0 s.1 s.2 in let z : ◌≡◌ {A = ℕ} 0 1 = cc m.1 in omega arith;
  pairs_l_0_0 = (_, _, attained bound_p 0 _ _ refl pairs_l_0_0);
  pairs_l_0_5 = beaten pair_laws bound_p 0 5 _ _ pairs_l_0_0 (to 0 0) refl (pair 2 2) refl refl;
}
