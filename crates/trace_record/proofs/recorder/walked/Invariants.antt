use Rattle.trace_record.proofs.recorder.walked.Given as goal

abbrev pub ghosts-walk : goal.ghosts-walk
ghosts-walk g a = record { gave = g.V.EnvView.gave a.view.now; refused = g.V.EnvView.refused a.view.now; name = a.view.ghost_name }
