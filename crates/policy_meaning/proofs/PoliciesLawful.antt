-- The laws of the meaning of each policy.
use Rattle.std.proofs.Common.{◌≡◌, ℕ, ◌+◌, ◌-◌, Bool, true, List, [], ◌∷◌, refl, ap}
use Rattle.std.specs.Prelude.{◌&&◌, ◌==◌, not, filter}
use Rattle.std.specs.List.{list_all}
use Rattle.std.proofs.lemmas.Bool.{eq-eqb, and_parts, and_from, cond_both}
use Rattle.maple_base.specs.declared.decision.Decision.TheVariants.{Drop, Path}
use Rattle.maple_base.specs.declared.decision.Outcome.{Outcome}
use Rattle.maple_base.specs.declared.decision.Outcome.TheVariants.{Decided}
use Rattle.maple_base.specs.Kinds.{of_kind}
use Rattle.maple_base.specs.Ports.{is_port}
use Rattle.policy_meaning.specs.Asking.{Done, AsksField, AsksTest, AsksCell, Goes, Ends, Run, whole}
use Rattle.policy_meaning.specs.QuestionLaws.{AsksAtMost, EndsWithin}
use Rattle.policy_meaning.specs.Values.{ports_among, sent_out}
use Rattle.policy_meaning.specs.Meaning.{in_block, acts_of}
use Rattle.policy_meaning.specs.PolicyLaws.{begins_at, decides_ports, BeginsHere, DecidesPorts, AsksWithinBudget, KeepsDecisions}
use Rattle.policy_meaning.proofs.Fits.{Fits, Suits, policy_within}
use Rattle.policy_meaning.proofs.Kept.{policy_kept, decided_still}

-- of a whole run
whole_asks : {A : Type 0} (G : ℕ → A → Type 0) (o : Outcome) (m : Run A) (n : ℕ) → Fits (λ c v. true) (λ o. true) G n m → AsksAtMost n (whole o m)
whole_asks G o (Done e) n h = tt
whole_asks G o (AsksField f by) n h = (h.0, λ v. whole_asks G o (by v) (n - 1) (h.1 v))
whole_asks G o (AsksTest f v by) n h = (h.0, λ b. whole_asks G o (by b) (n - 1) (h.1 b))
whole_asks G o (AsksCell c by) n h = λ v. whole_asks G o (by v) n (h v refl)

whole_ends : {A : Type 0} (such : Outcome → Bool) (G : ℕ → A → Type 0) (o : Outcome) (m : Run A) (n : ℕ) → such o ≡ true → Fits of_kind such G n m → EndsWithin such (whole o m)
whole_ends such G o (Done (Goes a)) n e h = e
whole_ends such G o (Done (Ends p)) n e h = h
whole_ends such G o (AsksField f by) n e h = λ v. whole_ends such G o (by v) (n - 1) e (h.1 v)
whole_ends such G o (AsksTest f v by) n e h = λ b. whole_ends such G o (by b) (n - 1) e (h.1 b)
whole_ends such G o (AsksCell c by) n e h = λ v kind. whole_ends such G o (by v) n e (h v kind)

any_suits : Suits (λ c v. true) (λ n o. true)
any_suits = record { spent = λ n. refl; dropped = λ n. refl; flooded = λ n. refl; out = λ n ns. refl; here = λ to h. refl; ahead = λ from n p ps h t. refl }

pub asks_within_budget : AsksWithinBudget
asks_within_budget body budget switch = whole_asks _ (Decided Drop) _ budget (policy_within (λ c v. true) (λ n o. true) any_suits switch body budget)

sent_begins : (n : ℕ) (ps : List ℕ) → begins_at n (Decided (sent_out ps)) ≡ true
sent_begins n [] = refl
sent_begins n (p ∷ ps) = refl

begins_suits : Suits of_kind begins_at
begins_suits = record {
  spent = λ n. refl;
  dropped = λ n. refl;
  flooded = λ n. refl;
  out = λ n ns. sent_begins n (ports_among ns);
  here = λ to h. eq-eqb to.switch to.switch refl;
  ahead = λ from n p ps h t. eq-eqb from from refl;
}

pub begins_here : BeginsHere
begins_here body budget switch = whole_ends (begins_at switch) _ (Decided Drop) _ budget refl (policy_within of_kind begins_at begins_suits switch body budget)

filter_ports : (test : ℕ → Bool) (ns : List ℕ) → list_all is_port ns ≡ true → list_all is_port (filter test ns) ≡ true
filter_ports test [] h = refl
filter_ports test (n ∷ ns) h =
    let q = and_parts (is_port n) (list_all is_port ns) h in
    let rest = filter_ports test ns q.1 in
    cond_both (test n) (n ∷ filter test ns) (filter test ns) (λ ps. list_all is_port ps ≡ true)
    (λ e. and_from (is_port n) (list_all is_port (filter test ns)) q.0 rest) (λ e. rest)

are_ports : (ns : List ℕ) → list_all is_port (ports_among ns) ≡ true
are_ports [] = refl
are_ports (n ∷ ns) =
    let others : List ℕ = filter (λ m. not (m == n)) (ports_among ns) in
    cond_both (is_port n) (n ∷ others) (ports_among ns) (λ ps. list_all is_port ps ≡ true)
    (λ e. and_from (is_port n) (list_all is_port others) e (filter_ports (λ m. not (m == n)) (ports_among ns) (are_ports ns))) (λ e. are_ports ns)

sent_ports : (ps : List ℕ) → list_all is_port ps ≡ true → decides_ports (Decided (sent_out ps)) ≡ true
sent_ports [] h = refl
sent_ports (p ∷ ps) h = h

port_suits : Suits of_kind (λ n. decides_ports)
port_suits = record {
  spent = λ n. refl;
  dropped = λ n. refl;
  flooded = λ n. refl;
  out = λ n ns. sent_ports (ports_among ns) (are_ports ns);
  here = λ to h. ap (λ b. b && true) h;
  ahead = λ from n p ps h t. and_from (is_port p.port) (decides_ports (Decided (Path ps))) h t;
}

pub decides_its_ports : DecidesPorts
decides_its_ports body budget switch = whole_ends decides_ports _ (Decided Drop) _ budget refl (policy_within of_kind (λ n. decides_ports) port_suits switch body budget)

pub keeps_decisions : KeepsDecisions
keeps_decisions body budget more switch env k d e = decided_still env k switch more (in_block (acts_of body switch) [] budget) (in_block (acts_of body switch) [] (budget + more)) d
    (policy_kept env k switch more body budget) e
