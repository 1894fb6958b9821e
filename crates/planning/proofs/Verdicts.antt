-- After a start and any turns: either the invariant holds and the search goes on or is stuck, or a goal was taken.
use Rattle.std.proofs.Common.{◌≡◌, ℕ, Bool, true, false, List, ◌∷◌, Some, sym, refl, ◌∙◌, arith}
use Rattle.planning.specs.declared.cost.Record.{Record}
use Rattle.planning.specs.declared.status.Status.{Status}
use Rattle.planning.specs.declared.status.Status.TheVariants.{Open, Stuck}
use Rattle.planning.specs.Costs.{Algebra, CostLaws, Strict}
use Rattle.planning.specs.Estimates.{Estimates, Admissible}
use Rattle.planning.specs.Paths.{Optimal, Solvable}
use Rattle.planning.specs.Search.{Memory, Configuration, verdict_of, label, Onward, nothing_waits, at_limit, goes_on, Turn, Runs, still, turn, Started}
use Rattle.planning.specs.Task.{Model, TaskLaws}
use Rattle.planning.specs.Theorem.{is_verdict, Meaning}
use Rattle.planning.proofs.Offers.{mark, mark_from}
use Rattle.planning.proofs.Invariant.{Invariant, Rooted, All, removed, expanded, started_invariant, started_rooted}
use Rattle.planning.proofs.Frontier.{tagged_goal, untagged_goal}
use Rattle.planning.proofs.Frontier

-- a marking that a goal has closed is not open
pub closed_not_open : (tag : Bool) → verdict_of tag ≡ Open → ⊥
closed_not_open true e = grind arith
closed_not_open false e = grind arith

module _ {K : Type 0} (t : Model) (a : Algebra K) (h : Estimates K) (s action : ℕ) where
  -- what a goal with that tag says
  abbrev pub Verdict : Bool → Type 0
  Verdict true = Optimal t a s action
  Verdict false = Solvable t a s × (Optimal t a s action → ⊥)

  pub data Stage (c : Configuration K) : Type 0 where
    going : Invariant t a h s action (All t a h) c.memory → Rooted t a h s action c.memory → Onward c.memory.waiting c.numbers.turns c.numbers.limit c.numbers.status → Stage c
    done : (tag : Bool) → c.numbers.status ≡ verdict_of tag → (Admissible t a h → Verdict tag) → Stage c

  pub optimal_solvable : Optimal t a s action → Solvable t a s
  optimal_solvable o = (action ∷ o.0, o.1, o.2.solution)

  meaning_done : (tag : Bool) (st : Status) → st ≡ verdict_of tag → Verdict tag → Meaning t a s action st
  meaning_done true st e v = record { best = (λ _. v, λ _. e); stuck = (λ f. absurd (grind arith), λ n. absurd (n (optimal_solvable v))); other = (λ f. absurd (grind arith), λ n. absurd (n.1 v)) }
  meaning_done false st e v = record { best = (λ f. absurd (grind arith), λ o. absurd (v.1 o)); stuck = (λ f. absurd (grind arith), λ n. absurd (n v.0)); other = (λ _. v, λ _. e) }

  meaning_stuck : (Solvable t a s → ⊥) → Meaning t a s action Stuck
  meaning_stuck n = record { best = (λ f. absurd (grind arith), λ o. absurd (n (optimal_solvable o))); stuck = (λ _. n, λ _. refl); other = (λ f. absurd (grind arith), λ v. absurd (n v.0)) }

  module _ (l : CostLaws a) (strict : Strict a) (laws : TaskLaws t) where
    meaning_onward : (m : Memory K) → Admissible t a h → Invariant t a h s action (All t a h) m → Rooted t a h s action m → (n k : ℕ) (st : Status) → Onward m.waiting n k st → is_verdict st ≡ true → Meaning t a s action st
    meaning_onward m adm i j n k st (nothing_waits w) e = meaning_stuck (Frontier.nothing_waits t a h l strict laws adm s action m i j w)
    meaning_onward m adm i j n k st (at_limit w b) e = grind arith
    meaning_onward m adm i j n k st (goes_on w b) e = grind arith

    pub meaning : (c : Configuration K) → Stage c → Admissible t a h → is_verdict c.numbers.status ≡ true → Meaning t a s action c.numbers.status
    meaning c (going i j o) adm e = meaning_onward c.memory adm i j c.numbers.turns c.numbers.limit c.numbers.status o e
    meaning c (done tag e v) adm f = meaning_done tag c.numbers.status e (v adm)

    turn_stage : (d e : Configuration K) → Invariant t a h s action (All t a h) d.memory → Rooted t a h s action d.memory → Turn t a a.plus h d e → Stage e
    turn_stage d e i j o = go (t.goal o.state) refl
      where
        is : mark d.memory o.state ≡ Some (label o.found)
        is = mark_from d.memory o.state o.found o.at o.known

        verdict : t.goal o.state ≡ true → Admissible t a h → (tag : Bool) → o.found.tagged ≡ tag → Verdict tag
        verdict g adm true f = tagged_goal t a h l strict laws adm s action d.memory i j o.state o.found o.entry is o.first g f
        verdict g adm false f = untagged_goal t a h l strict laws adm s action d.memory i j o.state o.found o.entry is o.first g f

        go : (b : Bool) → t.goal o.state ≡ b → Stage e
        go true g = done o.found.tagged (o.closes g).status (λ adm. verdict g adm o.found.tagged refl)
        go false g =
            let entered = i.entries o.state o.entry o.first.waits in
            let way = i.ways o.state (label o.found) o.within is in
            let start = removed t a h s action o.state o.found d.memory o.rest o.at o.known g o.table o.removed i j in
            let end = expanded t a h l laws s action o.state (label o.found) entered.estimate entered.estimated way o.rest e.memory (o.expands g).swept start in
            going end.0 end.1 (o.expands g).status

    stage_turn : (d e : Configuration K) → Stage d → d.numbers.status ≡ Open → Turn t a a.plus h d e → Stage e
    stage_turn d e (going i j _) f o = turn_stage d e i j o
    stage_turn d e (done tag g _) f o = absurd (closed_not_open tag (sym g ∙ f))

    pub started_stage : (limit : ℕ) (table : List (Record K)) (c : Configuration K) → Started t a a.plus h s action limit table c → Stage c
    started_stage limit table c o = going (started_invariant t a h l laws s action limit table c o) (started_rooted t a h l laws s action limit table c o) (rw (o.turns, o.limit_kept) o.status)

    pub runs_stage : (c : Configuration K) → Stage c → (k : ℕ) (e : Configuration K) → Runs t a a.plus h c k e → Stage e
    runs_stage c first k e still = first
    runs_stage c first k e (turn {d = d} runs f o) = stage_turn d e (runs_stage c first _ d runs) f o
