use Rattle.std.proofs.Common.{cond, eqb, get_or, refl, sym, ap, ◌∙◌, rules}
use Rattle.rows.specs.Decode.{instruction_at, talk_at}
use Rattle.rows.proofs.Talks.{talk_found}
use Rattle.records.specs.Records.{record_at}
use Rattle.records.proofs.RecordLaws.{kept_set, kept_room}
use Rattle.rows.specs.declared.decode.Instruction.TheVariants.{Offer}
use Rattle.turns.proofs.MeetingLaws.{chose, choosing, unmet, none_first, offer_other}
use Rattle.turns.proofs.meeting.offer_to.Goals as goal

pub returns-in_default : goal.returns-in_default
returns-in_default c =
    unmet c.args.rows.now.words.now c.args.rows.now.map.now.second c.args.processes.now _ c.args.j c.args.i refl
    (offer_other c.args.rows.now.words.now (record_at c.args.processes.now c.args.j).place (record_at c.args.processes.now c.args.i).place
    c.args.conversation c.args.first c.in_default.field-0 c.requires.doing.is ((talk_found c.args.rows.now.words.now c.place.result c.in_default.field-0 (sym c.in_default.is ∙ c.talk_at.ensures.is)) ∙ ap (instruction_at c.args.rows.now.words.now) c.place.ensures.place) (λ d k n e. search rules))

pub returns-in_default-2 : goal.returns-in_default-2
returns-in_default-2 c =
    unmet c.args.rows.now.words.now c.args.rows.now.map.now.second c.args.processes.now _ c.args.j c.args.i refl
    (none_first c.args.rows.now.words.now (record_at c.args.processes.now c.args.j).place (record_at c.args.processes.now c.args.i).place
    (sym c.in_default.is ∙ (c.talk_at.ensures.is ∙ ap (talk_at c.args.rows.now.words.now) c.place.ensures.place)))

pub returns : goal.returns
returns c =
    let k1 = kept_set c.args.processes.now c.args.j c.set_place.new.process _ c.requires.second c.set_place.ensures in
    let k2 = kept_set _ c.args.i c.set_place-2.new.process _ (kept_room k1 c.args.i c.requires.first) c.set_place-2.ensures in
    chose c.args.rows.now.words.now c.args.rows.now.map.now.second c.args.processes.now _ _ c.args.j c.args.i
    c.in-Some-Choose.way c.in-Some-Choose.next (record_at c.args.processes.now c.args.i).place c.args.conversation c.args.first c.way_at-to.result (Offer c.args.conversation c.args.first)
    (choosing c.args.rows.now.words.now c.place.result (record_at c.args.processes.now c.args.j).place _ c.in-Some-Choose.way c.in-Some-Choose.next c.in-Some-Choose.field-0 c.place.ensures.place (talk_found c.args.rows.now.words.now c.place.result c.in-Some-Choose.field-0 c.in-Some-Choose.ensures.is) c.in-Some-Choose.field-0-is c.in-Some-Choose.ensures.words)
    refl c.requires.doing.is refl c.requires.doing.words (c.way_at-to.ensures ∙ ap (λ p. cond (eqb c.in-Some-Choose.way 0) c.args.first (get_or c.args.rows.now.map.now.second p 0)) c.place-2.ensures.place)
    k1 k2
