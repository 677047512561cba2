-- The way from a switch, by its first hop.
use Rattle.std.proofs.Common.{◌≡◌, ◌≢◌, ℕ, zero, suc, false, cond, List, [], ◌∷◌, refl, sym, ap, subst, ⊎_elim}
use Rattle.std.specs.Prelude.{◌==◌}
use Rattle.std.proofs.lemmas.Bool.{cases_Bool, eqb-true, eq-eqb}
use Rattle.maple_base.specs.declared.cells.Cell.TheVariants as cells
use Rattle.maple_base.specs.declared.cells.Place.{Place}
use Rattle.maple_base.specs.declared.cells.Value.{Value}
use Rattle.maple_base.specs.declared.cells.Value.TheVariants.{At}
use Rattle.maple_base.specs.declared.decision.Decision.TheVariants.{Drop as Dropped, Path as Along}
use Rattle.maple_base.specs.declared.decision.Outcome.{Outcome}
use Rattle.maple_base.specs.declared.decision.Outcome.TheVariants.{Decided, Spent}
use Rattle.policy_meaning.specs.Asking.{End, Goes, Ends, Run, gives, ends, ◌>>=◌}
use Rattle.policy_meaning.specs.Leads.{Saying, CellIs, Leads}
use Rattle.policy_lang.specs.Tree.{Term}
use Rattle.policy_meaning.specs.Values.{Datum as Given, Scope, place_in, hop_at}
use Rattle.policy_meaning.specs.Meaning.{value_of, behind_hop, way, way_to, route_of}
use Rattle.policy_eval.specs.StatementParts.{way_from}
use Rattle.policy_meaning.proofs.Walks.{leads_next, leads_end}

differs : (a b : ℕ) → a ≢ b → (a == b) ≡ false
differs a b f = ⊎_elim (λ e. absurd (f (eqb-true a b e))) (λ e. e) (cases_Bool (a == b))

-- the way from a switch that is not the place's own
apart : {S : Type 0} (said : Saying S) (s : S) (n : ℕ) (to : Place) (left from : ℕ) (t : S) (e : End (List Place)) → from ≢ to.switch → Leads said s (way n to left from) t e → Leads said s (way_from n to left from) t e
apart said s n to left from t e h = subst (λ b. Leads said s (cond b (gives (to ∷ [])) (way n to left from)) t e) (sym (differs from to.switch h))

pub there : {S : Type 0} (said : Saying S) (s : S) (n : ℕ) (to : Place) (left from : ℕ) (ps : List Place) → from ≡ to.switch → ps ≡ to ∷ [] → Leads said s (way_from n to left from) s (Goes ps)
there said s n to left from ps h e = subst (λ b. Leads said s (cond b (gives (to ∷ [])) (way n to left from)) s (Goes ps)) (sym (eq-eqb from to.switch h)) (refl, ap Goes (sym e))

pub far : {S : Type 0} (said : Saying S) (s : S) (n : ℕ) (to : Place) (left from : ℕ) → from ≢ to.switch → n ≡ 0 → Leads said s (way_from n to left from) s (Ends (Decided Dropped))
far said s n to left from h e = apart said s n to left from s (Ends (Decided Dropped)) h (subst (λ m. Leads said s (way m to left from) s (Ends (Decided Dropped))) (sym e) (refl, refl))

pub spent : {S : Type 0} (said : Saying S) (s : S) (n : ℕ) (to : Place) (left from : ℕ) → from ≢ to.switch → n ≢ 0 → left ≡ 0 → Leads said s (way_from n to left from) s (Ends Spent)
spent said s zero to left from h e z = absurd (e refl)
spent said s (suc n) to left from h e z = apart said s (suc n) to left from s (Ends Spent) h (subst (λ l. Leads said s (way (suc n) to l from) s (Ends Spent)) (sym z) (refl, refl))

-- behind a cell that was told
told_on : {S : Type 0} (said : Saying S) (s : S) (n m : ℕ) (to : Place) (left rest from : ℕ) (v : Value) (u t : S) (e : End (List Place))
    → from ≢ to.switch → n ≡ suc m → left ≡ suc rest → said s (CellIs (cells.Hop from to.switch) v) u → Leads said u (behind_hop from to (way m to rest) v) t e → Leads said s (way_from n to left from) t e
told_on said s n m to left rest from v u t e h i j w x =
    apart said s n to left from t e h (subst (λ k. Leads said s (way k to left from) t e) (sym i) (subst (λ l. Leads said s (way (suc m) to l from) t e) (sym j)
    (record { value = v; behind = u; told = w; onward = x })))

hop_on : ℕ → ℕ → List Place → Run (List Place)
hop_on from port ps = gives (hop_at from port ∷ ps)

pub hop_ends : {S : Type 0} (said : Saying S) (s : S) (n m : ℕ) (to : Place) (left rest from : ℕ) (v : Value) (p : Place) (u t : S) (o : Outcome)
    → from ≢ to.switch → n ≡ suc m → left ≡ suc rest → v ≡ At p → said s (CellIs (cells.Hop from to.switch) v) u → Leads said u (way_from m to rest p.switch) t (Ends o) → Leads said s (way_from n to left from) t (Ends o)
unfolding hop_on
hop_ends said s n m to left rest from v p u t o h i j k w x =
    told_on said s n m to left rest from v u t (Ends o) h i j w (subst (λ y. Leads said u (behind_hop from to (way m to rest) y) t (Ends o)) (sym k) (leads_end said u (way_from m to rest p.switch) t o (hop_on from p.port) x))

pub hop_goes : {S : Type 0} (said : Saying S) (s : S) (n m : ℕ) (to : Place) (left rest from : ℕ) (v : Value) (p : Place) (u t : S) (ps : List Place)
    → from ≢ to.switch → n ≡ suc m → left ≡ suc rest → v ≡ At p → said s (CellIs (cells.Hop from to.switch) v) u → Leads said u (way_from m to rest p.switch) t (Goes ps)
    → Leads said s (way_from n to left from) t (Goes (hop_at from p.port ∷ ps))
unfolding hop_on
hop_goes said s n m to left rest from v p u t ps h i j k w x =
    let e = Goes (hop_at from p.port ∷ ps) in
    told_on said s n m to left rest from v u t e h i j w (subst (λ y. Leads said u (behind_hop from to (way m to rest) y) t e) (sym k) (leads_next said u (way_from m to rest p.switch) t ps (hop_on from p.port) t e x (refl, refl)))

along : List Place → Run (Scope × ℕ)
along ps = ends (Decided (Along ps))

routed : ℕ → Given × ℕ → Run (Scope × ℕ)
routed switch (d, left) = way_to switch (place_in d) left >>= along

-- a `route` whose way ends the run, and one that has a way
pub route_ends : {S : Type 0} (said : Saying S) (s : S) (e : Term) (switch : ℕ) (scope : Scope) (n : ℕ) (u : S) (d : Given) (rest : ℕ) (to : Place) (t : S) (o : Outcome)
    → Leads said s (value_of e switch scope n) u (Goes (d, rest)) → to ≡ place_in d → Leads said u (way_to switch to rest) t (Ends o) → Leads said s (route_of e switch scope n) t (Ends o)
unfolding routed along
route_ends said s e switch scope n u d rest to t o w q v =
    leads_next said s (value_of e switch scope n) u (d, rest) (routed switch) t (Ends o) w
    (leads_end said u (way_to switch (place_in d) rest) t o along (subst (λ p. Leads said u (way_to switch p rest) t (Ends o)) q v))

pub route_goes : {S : Type 0} (said : Saying S) (s : S) (e : Term) (switch : ℕ) (scope : Scope) (n : ℕ) (u : S) (d : Given) (rest : ℕ) (to : Place) (t : S) (ps : List Place)
    → Leads said s (value_of e switch scope n) u (Goes (d, rest)) → to ≡ place_in d → Leads said u (way_to switch to rest) t (Goes ps) → Leads said s (route_of e switch scope n) t (Ends (Decided (Along ps)))
unfolding routed along
route_goes said s e switch scope n u d rest to t ps w q v =
    leads_next said s (value_of e switch scope n) u (d, rest) (routed switch) t (Ends (Decided (Along ps))) w
    (leads_next said u (way_to switch (place_in d) rest) t ps along t (Ends (Decided (Along ps))) (subst (λ p. Leads said u (way_to switch p rest) t (Goes ps)) q v) (refl, refl))
