use Rattle.std.proofs.Common.{◌≡◌, ap, length, ◌∙◌, sym}
use Rattle.std.specs.Vec.{with_items}
use Rattle.std.proofs.lemmas.List.{length-map, with_items_is}
use Rattle.maple_top.proofs.Results.{of_input}
use Rattle.maple_top.proofs.Tops.{due_at, exact_at, failed_to_read, left_aside, usage}
use Rattle.maple_top.proofs.top.maple.Goals as goal

pub returns-clause-results : goal.returns-clause-results
returns-clause-results g c =
    let all : (with_items c.args.devices.now c.run_words.new.all).items ≡ c.run_words.new.all =
    with_items_is c.args.devices.now c.run_words.new.all (c.run_words.auto.all ∙ ap length c.deref_mut.ensures.value ∙ sym c.args.devices.now.ok.0) in
    rw (← all) at (rw c.deref_mut.ensures.value at c.run_words.ensures.results)

pub returns-clause-usage : goal.returns-clause-usage
returns-clause-usage g c = let (heard, is, (text, r, w)) = c.run_words.ensures.results.heard in usage _ _ _ _ _ _ _ text r

pub returns-clause-due : goal.returns-clause-due
returns-clause-due g c =
    of_input _ (λ ended bytes (text, r, w). due_at _ (length-map _ _) ended _ _ bytes _ _ text r) (rw c.deref_mut.ensures.value at c.run_words.ensures.results)

pub returns-clause-exact : goal.returns-clause-exact
returns-clause-exact g c =
    of_input _ (λ ended bytes (text, r, w). exact_at _ (length-map _ _) ended _ _ bytes _ _ text r) (rw c.deref_mut.ensures.value at c.run_words.ensures.results)

pub returns-clause-read_fault : goal.returns-clause-read_fault
returns-clause-read_fault g c = λ e. let (heard, is, (text, r, w)) = c.run_words.ensures.results.heard in failed_to_read _ _ _ _ _ _ _ text r e

pub returns-clause-uncalled : goal.returns-clause-uncalled
returns-clause-uncalled g c =
    let all : (with_items c.args.devices.now c.run_words.new.all).items ≡ c.run_words.new.all =
    with_items_is c.args.devices.now c.run_words.new.all (c.run_words.auto.all ∙ ap length c.deref_mut.ensures.value ∙ sym c.args.devices.now.ok.0) in
    λ no. rw (← all) at (rw c.deref_mut.ensures.value at (c.run_words.ensures.uncalled no))

pub returns-clause-aside : goal.returns-clause-aside
returns-clause-aside g c =
    let all : (with_items c.args.devices.now c.run_words.new.all).items ≡ c.run_words.new.all =
    with_items_is c.args.devices.now c.run_words.new.all (c.run_words.auto.all ∙ ap length c.deref_mut.ensures.value ∙ sym c.args.devices.now.ok.0) in
    λ a. let (heard, is, (text, r, w)) = c.run_words.ensures.results.heard in
    rw (← all) at (rw c.deref_mut.ensures.value at (ap (λ s. s.devices) (left_aside _ _ _ _ _ _ _ text r a)))
