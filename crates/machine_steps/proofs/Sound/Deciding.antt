-- What an evaluation of the policy in force leaves sound.
use Rattle.std.proofs.Common.{◌≡◌, ℕ, true, List, [], ◌∷◌, refl, sym, ap, ◌∙◌, subst, inl, inr, ⊎_elim, arith}
use Rattle.std.specs.Prelude.{Contains, map, Option, Some, None}
use Rattle.std.specs.FinMap as map_of
use Rattle.std.specs.Ordering.{eq_by_cmp}
use Rattle.std.specs.Cmp.{eq_by_cmp_equiv}
use Rattle.std.specs.List.{list_all, list_any}
use Rattle.std.proofs.lemmas.Bool.{and_from, or_left, or_right}
use Rattle.maple_base.specs.declared.cells.Cell.{Cell}
use Rattle.maple_base.specs.declared.cells.Cell.TheVariants.{Host, Hop, Up, Num}
use Rattle.maple_base.specs.declared.cells.Place.{Place}
use Rattle.maple_base.specs.declared.cells.Value.{Value}
use Rattle.maple_base.specs.declared.decision.Decision.{Decision}
use Rattle.maple_base.specs.declared.decision.Outcome.{Outcome}
use Rattle.maple_base.specs.declared.decision.Outcome.TheVariants.{Decided}
use Rattle.maple_base.specs.Kinds.{of_kind}
use Rattle.maple_base.specs.Keys.{valid_key}
use Rattle.maple_base.specs.Ports.{is_port}
use Rattle.env_cells.specs.Environment.{Environment, place_cmp}
use Rattle.env_cells.specs.KeyOrders.{place_order_total}
use Rattle.env_cells.specs.Named.{numbers_in}
use Rattle.env_cells.specs.Values.{at_or_nothing, number_or_nothing}
use Rattle.topo_paths.specs.NextHops.{next_hop}
use Rattle.topo_paths.specs.Scenes.{links_in, cell_in}
use Rattle.topo_paths.specs.Walks.{Link}
use Rattle.topo_paths.proofs.Hopping.{as_hop}
use Rattle.topo_paths.proofs.LeastHops.{contains_cases}
use Rattle.policy_meaning.specs.Asking.{Asking}
use Rattle.policy_meaning.specs.Cells.{Gives, is_of_kind}
use Rattle.policy_meaning.specs.Readings.{items_of, cells_of, outcome_in}
use Rattle.policy_meaning.specs.QuestionLaws.{IsTrace}
use Rattle.policy_meaning.specs.Meaning.{meaning}
use Rattle.policy_meaning.specs.PolicyLaws.{begins_at, decides_ports}
use Rattle.machine_steps.specs.declared.reply.Reply.{Reply}
use Rattle.machine_steps.specs.Machine.{Job, State, in_force}
use Rattle.machine_steps.specs.Steps.{asked_now, Decides}
use Rattle.machine_steps.specs.Sound.{BeginAtPorts, IsSound}
use Rattle.machine_steps.proofs.Sound.Kept.{RunningLaws, LowerLaws}
use Rattle.machine_steps.proofs.Sound.Answering.{IsNext, concludes_sound, served}

-- ---- cells have values of their kinds

-- a link's first place is one of the keys
key_listed : (links : List Link) (link : Link) → Contains links link → list_any (eq_by_cmp place_cmp link.0) (map (λ l. l.0) links) ≡ true
key_listed [] link c = absurd (omega (arith, c.1))
key_listed (l ∷ ls) link c =
    let keys = map (λ (k : Link). k.0) ls in
    ⊎_elim
    (λ e. or_left (eq_by_cmp place_cmp link.0 l.0) (list_any (eq_by_cmp place_cmp link.0) keys) (ap (λ (k : Link). eq_by_cmp place_cmp link.0 k.0) e ∙ (eq_by_cmp_equiv place_order_total).refl link.0))
    (λ d. or_right (eq_by_cmp place_cmp link.0 l.0) (list_any (eq_by_cmp place_cmp link.0) keys) (key_listed ls link d))
    (contains_cases l ls link c)

module _ (e : Environment) (ports : BeginAtPorts e) where
  -- a next hop leaves by such a port
  hop_port : (from to : ℕ) (hop : Place) → next_hop (links_in e) from to ≡ Some hop → is_port hop.port ≡ true
  hop_port from to hop is =
      let i = as_hop (links_in e) from to hop is in
      ap (λ (p : Place). is_port p.port) i.over ∙ ports i.link.0 (map_of.contains_key-keys e.links i.link.0 ∙ key_listed (links_in e) i.link i.there)

  host_kind : (mac : ℕ) (o : Option Place) → of_kind (Host mac) (at_or_nothing o) ≡ true
  host_kind mac None = refl
  host_kind mac (Some place) = refl

  number_kind : (table : List ℕ) (key : ℕ) (o : Option ℕ) → of_kind (Num table key) (number_or_nothing o) ≡ true
  number_kind table key None = refl
  number_kind table key (Some n) = refl

  hop_kind : (from to : ℕ) (o : Option Place) → next_hop (links_in e) from to ≡ o → of_kind (Hop from to) (at_or_nothing o) ≡ true
  hop_kind from to None is = refl
  hop_kind from to (Some hop) is = hop_port from to hop is

  pub kind_in : (c : Cell) → of_kind c (cell_in e c) ≡ true
  kind_in (Host mac) = host_kind mac (map_of.get e.hosts mac)
  kind_in (Hop from to) = hop_kind from to (next_hop (links_in e) from to) refl
  kind_in (Up switch port) = refl
  kind_in (Num table key) = number_kind table key (map_of.get (numbers_in e.tables table) key)

  kinds_in : (cs : List (Cell × Value)) → Gives (cell_in e) cs → list_all is_of_kind cs ≡ true
  kinds_in [] g = refl
  kinds_in (c ∷ cs) g = and_from (of_kind c.0 c.1) (list_all is_of_kind cs) (ap (of_kind c.0) (sym g.0) ∙ kind_in c.0) (kinds_in cs g.1)

-- ---- what is asked now

module _ (laws : RunningLaws) (m : State) (ports : BeginAtPorts m.scene) (j : Job) (valid : valid_key j.key ≡ true) where
  abbrev asked : Asking Outcome
  asked = meaning (in_force m).body m.settings.budget j.switch

  abbrev outcome : Outcome
  outcome = outcome_in asked j.key (cell_in m.scene)

  trace : IsTrace asked j.key (items_of (asked_now j m) j.key (cell_in m.scene)) (cells_of (asked_now j m) j.key (cell_in m.scene)) outcome
  trace = laws.traces asked j.key (cell_in m.scene) valid

  gives : Gives (cell_in m.scene) (cells_of (asked_now j m) j.key (cell_in m.scene))
  gives = (laws.own (asked_now j m) j.key (cell_in m.scene)).cells

  pub asked_next : (d : Decision) → outcome ≡ Decided d → IsNext m j (items_of (asked_now j m) j.key (cell_in m.scene)) (cells_of (asked_now j m) j.key (cell_in m.scene)) d
  asked_next d decided =
      let kinds = kinds_in m.scene ports (cells_of (asked_now j m) j.key (cell_in m.scene)) gives in (
        record {
          key = j.key;
          run = subst (IsTrace asked j.key (items_of (asked_now j m) j.key (cell_in m.scene)) (cells_of (asked_now j m) j.key (cell_in m.scene))) decided trace;
          cells = gives;
          begins = subst (λ o. begins_at j.switch o ≡ true) decided
              (laws.ends (begins_at j.switch) asked j.key (cell_in m.scene) (laws.begins (in_force m).body m.settings.budget j.switch) valid kinds);
          ports = subst (λ o. decides_ports o ≡ true) decided (laws.ends decides_ports asked j.key (cell_in m.scene) (laws.ports (in_force m).body m.settings.budget j.switch) valid kinds);
          number = omega arith;
        },
        refl,
      )

-- an evaluation of the policy in force
pub sound_decide : LowerLaws → (number : ℕ) (old : State) (reply : Reply) (new : State) → IsSound old → Decides number old reply new → IsSound new
sound_decide laws number old reply new h (inl (none_such, r, e)) = subst IsSound (sym e) h
sound_decide laws number old reply new h (inr (inl (j, is, concludes))) =
    let items = items_of (asked_now j old) j.key (cell_in old.scene) in
    let cells = cells_of (asked_now j old) j.key (cell_in old.scene) in
    let valid = (served laws old h j is.there items cells).valid in
    concludes_sound laws old h j is.there items cells (outcome_in (meaning (in_force old).body old.settings.budget j.switch) j.key (cell_in old.scene)) (asked_next laws.running old h.links j valid) reply new concludes
sound_decide laws number old reply new h (inr (inr e)) = subst IsSound (sym e.1) h
