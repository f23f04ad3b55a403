-- What came lies in the buffer, and the listing in the text. Assumes nothing.
use Rattle.text.specs.Text.{put_within}
use Rattle.dsrlist.proofs.main.Goals as goal

pub slice_bounds-text-end : goal.slice_bounds-text-end
slice_bounds-text-end c = put_within c.put_listing-end.ensures
