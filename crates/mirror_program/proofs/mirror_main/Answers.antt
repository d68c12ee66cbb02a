-- What `ac_main` says of the words behind the prefixes, over the mirror that was made, is what is owed.
use Rattle.std.proofs.Common.{◌≡◌, ◌-◌, take, drop, length, map, string_bytes, [], slice_index_or, sym, ap, ◌∙◌, subst, arith}
use Rattle.std.proofs.lemmas.List.{drop-map, get_or-map, length-drop, take_all}
use Rattle.mirror_program.specs.Mirroring.{AnswersAsAc, mirror_at_first, told_by_pair}
use Rattle.mirror_program.proofs.AtFirst.{made_at_first}
use Rattle.mirror_program.proofs.mirror_main.Goals as goal

pub returns-clause-mirrored : goal.returns-clause-mirrored
returns-clause-mirrored g c =
    let e = c.ac_main-outcome.ensures in
    let two = c.in-len2-up.len_at_least in
    let words = map string_bytes c.args.words.now in
    let told = told_by_pair g.A.Disk.told g.B.Disk.told in
    let first : c.as_str.result.now ≡ slice_index_or (map string_bytes c.args.words.now) 0 [] =
    c.as_str.ensures.value ∙ ap string_bytes c.first-item.is ∙ sym (get_or-map string_bytes c.args.words.now 0 c.first-item.result [] (omega (arith, two))) in
    let second : c.as_str-2.result.now ≡ slice_index_or (map string_bytes c.args.words.now) 1 [] =
    c.as_str-2.ensures.value ∙ ap string_bytes c.second-item.is ∙ sym (get_or-map string_bytes c.args.words.now 1 c.second-item.result [] (omega (arith, two))) in
    let made = made_at_first words c.args.a c.args.b c.in-Ok.a c.in-Ok-new.b c.as_str.result.now c.as_str-2.result.now c.args.is_alike c.in-Ok-new-2.mirror c.in-Ok-new-2.ensures c.in-Ok.ensures
    c.in-Ok-new.ensures first second in
    let count = length c.args.words.now - 2 in
    let all : take count (drop 2 c.args.words.now) ≡ drop 2 c.args.words.now = take_all count (drop 2 c.args.words.now) (omega (arith, length-drop 2 c.args.words.now)) in
    let rest : map string_bytes (take count (drop 2 c.args.words.now)) ≡ drop 2 (map string_bytes c.args.words.now) = ap (map string_bytes) all ∙ sym (drop-map string_bytes 2 c.args.words.now) in
    subst (λ ws. AnswersAsAc ws (g.L.Library.told c.args.library.now) (g.L.Library.told c.ac_main-outcome.new.library)
    (told (mirror_at_first words c.args.a c.args.b c.args.is_alike)) (told c.ac_main-outcome.new.disk)
    (g.K.Sink.told c.args.sink.now) (g.K.Sink.told c.ac_main-outcome.new.sink) c.ac_main-outcome.result) rest
    (subst (λ m. AnswersAsAc (map string_bytes (take count (drop 2 c.args.words.now))) (g.L.Library.told c.args.library.now) (g.L.Library.told c.ac_main-outcome.new.library) (told m)
    (told c.ac_main-outcome.new.disk)
    (g.K.Sink.told c.args.sink.now) (g.K.Sink.told c.ac_main-outcome.new.sink) c.ac_main-outcome.result) made
    (record {
      whole = e.whole;
      part = e.part;
      memory = e.memory;
      usage = e.usage;
      library = e.library;
      fault = e.disk;
      output = e.sink;
      decided = e.decided;
      judged = e.judged;
      loaded = e.loaded;
      read_back = e.read_back;
    }))
