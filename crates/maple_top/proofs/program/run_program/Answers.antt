use Rattle.maple_top.proofs.Programs.{devices_idle, devices_keep, fresh_exact, fresh_first, fresh_reading, fresh_reports, fresh_results, fresh_unread, reports_by}
use Rattle.maple_top.specs.declared.status.Status.TheVariants.{Done, Script}
use Rattle.maple_top.proofs.program.run_program.Goals as goal

pub returns-clause-results : goal.returns-clause-results
returns-clause-results g c = fresh_results c.run_over.ensures.ran c.requires.unread c.requires.unwritten

pub returns-clause-done : goal.returns-clause-done
returns-clause-done g c = reports_by _ Done _ _ _ _ _ tt (fresh_reports c.run_over.ensures.ran c.requires.unread c.requires.unwritten)

pub returns-clause-script : goal.returns-clause-script
returns-clause-script g c = reports_by _ Script _ _ _ _ _ tt (fresh_reports c.run_over.ensures.ran c.requires.unread c.requires.unwritten)

pub returns-clause-exact : goal.returns-clause-exact
returns-clause-exact g c = fresh_exact c.run_over.ensures.ran c.requires.unread c.requires.unwritten

pub returns-clause-reading : goal.returns-clause-reading
returns-clause-reading g c = fresh_reading c.run_over.ensures.ran c.requires.unread c.requires.unwritten

pub returns-clause-unread : goal.returns-clause-unread
returns-clause-unread g c = fresh_unread c.run_over.ensures.ran c.requires.unread c.requires.unwritten

pub returns-clause-first : goal.returns-clause-first
returns-clause-first g c = fresh_first c.run_over.ensures.ran c.requires.unread c.requires.unwritten

pub returns-clause-read_fault : goal.returns-clause-read_fault
returns-clause-read_fault g c = c.run_over.ensures.ran.read_fault

pub returns-clause-write_fault : goal.returns-clause-write_fault
returns-clause-write_fault g c = c.run_over.ensures.ran.spares.write_fault

pub returns-clause-keep : goal.returns-clause-keep
returns-clause-keep g c = devices_keep

pub returns-clause-idle : goal.returns-clause-idle
returns-clause-idle g c = devices_idle

pub returns-clause-board_fault : goal.returns-clause-board_fault
returns-clause-board_fault g c = c.run_over.ensures.ran.spares.board_fault

pub returns-clause-unserved : goal.returns-clause-unserved
returns-clause-unserved g c = c.run_over.ensures.ran.spares.unserved

pub returns-clause-reads_spared : goal.returns-clause-reads_spared
returns-clause-reads_spared g c = c.run_over.ensures.ran.spares.reads_spared

pub returns-clause-reads_count : goal.returns-clause-reads_count
returns-clause-reads_count g c = c.run_over.ensures.ran.spares.reads_count

pub returns-clause-writes_spared : goal.returns-clause-writes_spared
returns-clause-writes_spared g c = c.run_over.ensures.ran.spares.writes_spared

pub returns-clause-board_spared : goal.returns-clause-board_spared
returns-clause-board_spared g c = c.run_over.ensures.ran.spares.board_spared

pub returns-clause-board_aside : goal.returns-clause-board_aside
returns-clause-board_aside g c = c.run_over.ensures.ran.spares.board_aside
