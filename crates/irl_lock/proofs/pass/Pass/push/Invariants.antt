use Rattle.irl_lock.proofs.pass.Pass.push.Given as goal

abbrev pub ghosts-count : goal.ghosts-count
ghosts-count g a = record { bucket = a.b; offer = a.offer.now }
