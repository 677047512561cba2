use Rattle.std.proofs.Common.{◌≡◌, ◌<◌, ◌≤◌, List, [], Contains, get_or, take, refl, sym, ◌∙◌, subst, arith}
use Rattle.std.proofs.lemmas.List.{get_or_default, get_or-take, length-take, take_more, take_all}
use Rattle.topo_paths.specs.Beside.{AreLeast}
use Rattle.topo_paths.specs.Walks.{Link}
use Rattle.topo_paths.proofs.Beside.{least_none, least_more}
use Rattle.topo_paths.proofs.least.keep_least.Goals as goal

pub loop-link-init : goal.loop-link-init
loop-link-init c = record { least = subst (λ (x : List Link). AreLeast [] x) (sym c.clear.ensures.items) least_none; capacity = refl }

pub keep-first-requires : goal.keep-first-requires
keep-first-requires c = omega (arith, c.loop-link.invariant.least.few, length-take c.loop-link.link-index c.args.links.now, c.loop-link-test.true, c.requires.room, c.loop-link.invariant.capacity, c.clear.ensures.capacity, c.loop-link.least.ok.0)

pub loop-link-preserved : goal.loop-link-preserved
loop-link-preserved c =
    let links = c.args.links.now in
    let i = c.loop-link.link-index in
    let none : Link = (record { switch = 0; port = 0 }, record { switch = 0; port = 0 }) in
    let link : Link = get_or links i none in
    let later : (other : Link) → Contains (take i links) other → other.0.switch ≡ link.0.switch → other.0.port ≤ link.0.port = λ other (k, lt, at).
    let before : k < i = omega (arith, lt, length-take i links) in
    let is = get_or_default links k none other (omega (arith, before, c.loop-link-test.true)) ∙ sym (get_or-take i links k other before) ∙ at in
    subst (λ (x : Link). x.0.switch ≡ link.0.switch → x.0.port ≤ link.0.port) is (c.requires.rise k i none before c.loop-link-test.true) in
    record {
      least = subst (λ (x : List Link). AreLeast x c.keep-first.new.least.items) (sym (take_more links i none c.loop-link-test.true)) (least_more (take i links) c.loop-link.least.items c.keep-first.new.least.items link later c.keep-first.ensures.kept c.loop-link.invariant.least);
      capacity = c.keep-first.ensures.capacity ∙ c.loop-link.invariant.capacity;
    }

pub returns-clause-least : goal.returns-clause-least
returns-clause-least c = subst (λ (x : List Link). AreLeast x c.loop-link.least.items) (take_all c.loop-link.link-index c.args.links.now c.loop-link-test.false) c.loop-link.invariant.least
