use Rattle.kc_replay.proofs.wave.share_out.Given as goal

abbrev pub ghost-take_tasks : goal.ghost-take_tasks
ghost-take_tasks g a = g.seen.start

abbrev pub ghost-put_all : goal.ghost-put_all
ghost-put_all g a = g.seen
