use Rattle.command_words.proofs.Ranges.{gen_so, serve_so, sim_so}
use Rattle.command_words.proofs.words.command_of.Goals as goal

pub returns-in_ok-settings_in-clause-ranges : goal.returns-in_ok-settings_in-clause-ranges
returns-in_ok-settings_in-clause-ranges c = sim_so c.in_ok-first.words.now c.in_ok-settings_in.field-0 c.in_ok-settings_in.ensures

pub returns-then-eq-3-clause-ranges : goal.returns-then-eq-3-clause-ranges
returns-then-eq-3-clause-ranges c = gen_so c.in_ok-first.words.now c.gen_of.result c.gen_of.ensures

pub returns-in_ok-options-clause-ranges : goal.returns-in_ok-options-clause-ranges
returns-in_ok-options-clause-ranges c =
    serve_so c.in_ok-first.words.now c.in_ok-options.field-0 c.with_ports.result c.in_ok-options.ensures c.with_ports.ensures
