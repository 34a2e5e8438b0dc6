use Rattle.irl_top.proofs.telling.tell.Goals as goal

pub returns-in-OutputFault-clause-ok : goal.returns-in-OutputFault-clause-ok
returns-in-OutputFault-clause-ok g c = rw (c.in-OutputFault.is) c.write-in-OutputFault.ensures.ok

pub returns-in-OutputFault-clause-err : goal.returns-in-OutputFault-clause-err
returns-in-OutputFault-clause-err g c = rw (c.in-OutputFault.is) c.write-in-OutputFault.ensures.err

pub returns-in-NotOurs-clause-err : goal.returns-in-NotOurs-clause-err
returns-in-NotOurs-clause-err g c = rw (c.in-NotOurs.is, ← c.format-in-NotOurs.ensures.text, ← c.as_bytes-in-NotOurs.ensures.value) c.say-in-NotOurs.ensures.err

pub returns-in-Damaged-clause-ok : goal.returns-in-Damaged-clause-ok
returns-in-Damaged-clause-ok g c = rw (c.in-Damaged.is, ← c.format-in-Damaged.ensures.text, ← c.as_bytes-in-Damaged.ensures.value) (rw c.file_name.ensures at c.say-in-Damaged.ensures.ok)

pub returns-in-Damaged-clause-err : goal.returns-in-Damaged-clause-err
returns-in-Damaged-clause-err g c = rw (c.in-Damaged.is, ← c.format-in-Damaged.ensures.text, ← c.as_bytes-in-Damaged.ensures.value) (rw c.file_name.ensures at c.say-in-Damaged.ensures.err)
