-- Whether a run is quiet, core by core with what waits in each, and then link by link.
use Rattle.std.specs.Prelude.{ℕ, List, Option, Some, None, Bool, false, not, ◌&&◌, ◌||◌, ◌==◌, nat_le, slice_get}
use Rattle.std.specs.List.{list_any, list_all, enumerate_from}
use Rattle.ac_base.specs.declared.ends.Waiting.{Waiting}
use Rattle.ac_base.specs.declared.ends.CoreEnd.{CoreEnd}
use Rattle.ac_links.specs.AtRest.{has_front, has_room, is_news, is_unreplied}
use Rattle.ac_history.specs.History.{Past, link_at, terms_of}
use Rattle.ac_history.specs.Quiet.{has_stopped, is_waiting}
use Rattle.ac_history.specs.declared.quiet.LinkParties.{LinkParties}

-- link l of these parties has what an operation of party k waits for: room for an offer of its own, or an offer to it
abbrev pub has_for : Past → ℕ → Option LinkParties → ℕ → Bool
has_for past l None k = false
has_for past l (Some p) k = ((p.owner == k) && has_room (terms_of past.capacities past.channels l) (link_at past l))
    || ((p.peer == k) && has_front (link_at past l))

abbrev pub can_go_on : Past → List LinkParties → ℕ → Waiting → Bool
can_go_on past parties k w = is_waiting w.phase && has_for past w.link (slice_get parties w.link) k

abbrev pub core_rests : Past → List LinkParties → ℕ → CoreEnd → Bool
core_rests past parties k c = has_stopped c && not (c.idle && list_any (can_go_on past parties k) c.waiting)

abbrev pub is_idle : Option CoreEnd → Bool
is_idle None = false
is_idle (Some c) = c.idle

abbrev pub idles : List CoreEnd → ℕ → Bool
idles cores k = is_idle (slice_get cores k)

-- its owner has had what became of its offers, if it is idle, and no request is left
abbrev pub link_rests : Past → List CoreEnd → ℕ → LinkParties → Bool
link_rests past cores l p = not (idles cores p.owner && list_any (λ o. is_news o || is_unreplied o) (link_at past l))
    && not (nat_le past.channels l && has_front (link_at past l))

-- each core rests
abbrev pub cores_rest : Past → List LinkParties → List CoreEnd → Bool
cores_rest past parties cores = list_all (λ (c : ℕ × CoreEnd). core_rests past parties c.0 c.1) (enumerate_from 0 cores)

-- each link rests
abbrev pub links_rest : Past → List LinkParties → List CoreEnd → Bool
links_rest past parties cores = list_all (λ (l : ℕ × LinkParties). link_rests past cores l.0 l.1) (enumerate_from 0 parties)
