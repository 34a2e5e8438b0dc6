use Rattle.std.proofs.Common.{◌≡◌, ◌≤◌, refl, ap, ◌∙◌, length}
use Rattle.irl_disk.specs.Sure.{Held, sure_files}
use Rattle.irl_disk.proofs.sure.SureStoreStore.read.Goals as goal
use Rattle.irl_disk.proofs.sure.SureStoreStore.read.Goals.{After-file_in}

file_is : (c : After-file_in) → c.file_in.result.now ≡ sure_files c.args.self.now c.args.f
file_is c = c.file_in.ensures ∙ rw (c.deref.ensures.value, c.deref-2.ensures.value) (ap (λ (store : Held). sure_files store c.args.f) c.self.view_is)

within : (c : After-file_in) → c.args.at ≤ length c.file_in.result.now
within c = rw (file_is c) (c.requires.place _ refl)

pub slice_bounds-rest-count : goal.slice_bounds-rest-count
slice_bounds-rest-count c = within (goal.at.slice_bounds-rest-count c).After-file_in

pub slice_bounds-rest-start : goal.slice_bounds-rest-start
slice_bounds-rest-start c = within (goal.at.slice_bounds-rest-start c).After-file_in
